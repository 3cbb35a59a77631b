use Rattle.std.proofs.lemmas.Result.{IfOk-weaker}
use Rattle.acpi_arguments.proofs.Declared.{one_more}
use Rattle.acpi_arguments.proofs.command_line.judging.Goals as goal

pub returns : goal.returns
returns c =
    let options = c.in_ok-with_options.ensures in
    record {
      line = IfOk-weaker c.arg.result _ _
          (λ command adds. (one_more _ _ command _ _ (options.line, options.own) c.inputs.ensures.rule
          c.inputs.ensures.own adds).0)
          c.arg.ensures;
      own = IfOk-weaker c.arg.result _ _
          (λ command adds. (one_more _ _ command _ _ (options.line, options.own) c.inputs.ensures.rule
          c.inputs.ensures.own adds).1)
          c.arg.ensures;
    }
