use Rattle.acpi_base.specs.declared.table_kind.TableKind.TheVariants as kind
use Rattle.acpi_lint.proofs.FacsSets.{facs_fault_in_fadt, no_facs_fault_without_fadt}
use Rattle.acpi_lint.proofs.facs.facs_fault.Goals as goal

pub returns-in_err-table : goal.returns-in_err-table
returns-in_err-table c = λ q whole.
    let none = rw c.in_err-table.was at c.table.ensures in
    rw c.from_residual.ensures
    (no_facs_fault_without_fadt q c.args.code (rw (← none) at whole.listed kind.Fadt))

pub returns : goal.returns
returns c = λ q whole.
    let here = rw c.in_ok-table.was at c.table.ensures in
    facs_fault_in_fadt q c.args.code c.table_fault.result (rw (← here) at whole.listed kind.Fadt) c.table_fault.ensures
