use Rattle.std.proofs.Common.{sym, ◌∙◌}
use Rattle.acpi_base.proofs.Faults.Order.{not_after}
use Rattle.acpi_check.proofs.slit.check_slit.Goals as goal

pub returns-in-Err-clause-settled : goal.returns-in-Err-clause-settled
returns-in-Err-clause-settled c =
    let first = c.in-Err.ensures.fault in
    record {
      own = first.stage;
      fault = first.fault;
      least = λ v also.
          not_after c.in-Err.fault v (first.least v.code v.at v.other v.point also) (first.fault.1 ∙ sym also.1)
          (first.fault.2 ∙ sym also.2);
    }
