use Rattle.acpi_base.specs.declared.table_kind.TableKind.TheVariants as kind
use Rattle.acpi_lint.proofs.FadtSets.{fault_in_fadt, no_fault_without_fadt}
use Rattle.acpi_lint.proofs.fadt.fadt_fault.Goals as goal

pub returns-in_err-table-in_default : goal.returns-in_err-table-in_default
returns-in_err-table-in_default c = λ m q whole.
    let none = rw c.in_err-table-in_default.was at c.table.ensures in
    rw c.from_residual.ensures
    (no_fault_without_fadt q c.args.code c.in_default.not-NoFadt (rw (← none) at whole.listed kind.Fadt))

pub returns-in_ok-table-in_default : goal.returns-in_ok-table-in_default
returns-in_ok-table-in_default c = λ m q whole.
    let here = rw c.in_ok-table-in_default.was at c.table.ensures in
    fault_in_fadt q c.args.code c.table_fault.result c.in_default.not-NoFadt (rw (← here) at whole.listed kind.Fadt)
    c.table_fault.ensures
