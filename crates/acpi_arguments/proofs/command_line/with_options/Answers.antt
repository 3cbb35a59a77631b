use Rattle.std.proofs.Common.{◌∙◌, refl, ap}
use Rattle.std.proofs.lemmas.Result.{IfOk-weaker}
use Rattle.acpi_arguments.specs.CommandLine.{with_setting_options}
use Rattle.acpi_arguments.proofs.Declared.{one_more}
use Rattle.acpi_arguments.proofs.command_line.with_options.Goals as goal

pub returns : goal.returns
returns c =
    let first = one_more _ _ _ _ _ (refl, c.requires.command) refl c.requires.first c.in_ok-arg.ensures in
    let second = one_more _ _ _ _ _ first refl c.requires.second c.in_ok-arg-2.ensures in
    record {
      line = IfOk-weaker c.with_settings.result _ _ (λ whole changed. changed ∙ ap with_setting_options second.0)
          c.with_settings.ensures.line;
      own = c.with_settings.ensures.own;
    }
