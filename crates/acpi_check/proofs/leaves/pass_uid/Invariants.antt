use Rattle.acpi_base.specs.Entries.{entries_read_by}
use Rattle.acpi_base.specs.Madt.{madt_entry}
use Rattle.acpi_check.specs.NamedNumbers.{AreAmong}
use Rattle.acpi_check.proofs.leaves.pass_uid.Given as goal

abbrev pub invariant-loop-at : goal.invariant-loop-at
invariant-loop-at l =
    AreAmong (entries_read_by madt_entry l.left.entries.entries)
    (entries_read_by madt_entry l.initial.left.entries.entries)
