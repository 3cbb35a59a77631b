use Rattle.std.proofs.lemmas.Result.{IfOk-weaker}
use Rattle.acpi_arguments.proofs.Declared.{one_more}
use Rattle.acpi_arguments.proofs.command_line.strictly.Goals as goal

pub returns : goal.returns
returns c =
    let options = c.in_ok-with_options.ensures in
    let strict = one_more _ _ _ _ _ (options.line, options.own) c.flag.ensures.rule c.flag.ensures.own
    c.in_ok-arg.ensures in
    record {
      line = IfOk-weaker c.arg-2.result _ _
          (λ command adds. (one_more _ _ command _ _ strict c.inputs.ensures.rule c.inputs.ensures.own adds).0)
          c.arg-2.ensures;
      own = IfOk-weaker c.arg-2.result _ _
          (λ command adds. (one_more _ _ command _ _ strict c.inputs.ensures.rule c.inputs.ensures.own adds).1)
          c.arg-2.ensures;
    }
