use Rattle.std.proofs.Common.{refl}
use Rattle.std.proofs.lemmas.Result.{IfOk-weaker}
use Rattle.acpi_arguments.proofs.Declared.{one_more}
use Rattle.acpi_arguments.proofs.command_line.with_settings.Goals as goal

pub returns : goal.returns
returns c =
    let first = one_more _ _ _ _ _ (refl, c.requires.command) c.option.ensures.rule c.option.ensures.own
    c.in_ok-arg.ensures in
    let second = one_more _ _ _ _ _ first c.option-2.ensures.rule c.option-2.ensures.own c.in_ok-arg-2.ensures in
    record {
      line = IfOk-weaker c.arg-3.result _ _
          (λ command adds. (one_more _ _ command _ _ second c.option-3.ensures.rule c.option-3.ensures.own adds).0)
          c.arg-3.ensures;
      own = IfOk-weaker c.arg-3.result _ _
          (λ command adds. (one_more _ _ command _ _ second c.option-3.ensures.rule c.option-3.ensures.own adds).1)
          c.arg-3.ensures;
    }
