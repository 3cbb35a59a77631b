use Rattle.acpi_base.specs.TableKinds.{signature_of}
use Rattle.acpi_lint.proofs.FirstSlots.{no_table, table_there}
use Rattle.acpi_lint.proofs.complete_tables.found.Goals as goal

pub returns-in_err-slot : goal.returns-in_err-slot
returns-in_err-slot c = λ p are.
    let first = rw (← c.of_kind.ensures, c.in_err-slot.was) at (are.kinds c.args.kind) in
    rw c.from_residual.ensures (no_table (signature_of c.args.kind) first)

pub returns : goal.returns
returns c = λ p are.
    let first = rw (← c.of_kind.ensures, c.in_ok-slot.was) at (are.kinds c.args.kind) in
    table_there (signature_of c.args.kind) c.in_ok-slot.slot c.complete.result first c.complete.ensures
