use Rattle.acpi_lint.specs.FurtherTables.{further_signature}
use Rattle.acpi_lint.proofs.FirstSlots.{no_table, table_there}
use Rattle.acpi_lint.proofs.complete_tables.found_further.Goals as goal

pub returns-in_err-slot : goal.returns-in_err-slot
returns-in_err-slot c = λ p are.
    let first = rw (← c.of_further.ensures, c.in_err-slot.was) at (are.further c.args.table) in
    rw c.from_residual.ensures (no_table (further_signature c.args.table) first)

pub returns : goal.returns
returns c = λ p are.
    let first = rw (← c.of_further.ensures, c.in_ok-slot.was) at (are.further c.args.table) in
    table_there (further_signature c.args.table) c.in_ok-slot.slot c.complete.result first c.complete.ensures
