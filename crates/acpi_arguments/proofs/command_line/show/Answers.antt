use Rattle.std.proofs.lemmas.Result.{IfOk-weaker}
use Rattle.acpi_arguments.specs.CommandLine.{show_line}
use Rattle.acpi_arguments.proofs.Declared.{one_more}
use Rattle.acpi_arguments.proofs.command_line.show.Goals as goal

pub returns : goal.returns
unfolding show_line
returns c =
    let rsdp = one_more _ _ _ _ _ (c.new.ensures.app, c.new.ensures.local) c.option.ensures.rule c.option.ensures.own
    c.in_ok-arg.ensures in
    record {
      line = IfOk-weaker c.arg-2.result _ _
          (λ command adds. (one_more _ _ command _ _ rsdp c.flag.ensures.rule c.flag.ensures.own adds).0)
          c.arg-2.ensures;
      own = IfOk-weaker c.arg-2.result _ _
          (λ command adds. (one_more _ _ command _ _ rsdp c.flag.ensures.rule c.flag.ensures.own adds).1)
          c.arg-2.ensures;
    }
