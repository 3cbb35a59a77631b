use Rattle.acpi_base.specs.Entries.{entries_read_by}
use Rattle.acpi_base.specs.Madt.{madt_entry, madt_contents}
use Rattle.acpi_check.specs.ServedGsis.{named_gsi, IsInSpans}
use Rattle.acpi_check.proofs.ProcessorNumbers.NamedPass.{IsAt}
use Rattle.acpi_check.proofs.served.first_unserved.Given as goal

-- the numbers that entries so far name are in the spans, and the entries left are the rest of the table's
abbrev pub invariant-loop-at : goal.invariant-loop-at
invariant-loop-at l =
    IsAt (IsInSpans l.fn.spans) named_gsi (madt_contents l.fn.madt).entries
    (entries_read_by madt_entry l.entries.entries.entries)
