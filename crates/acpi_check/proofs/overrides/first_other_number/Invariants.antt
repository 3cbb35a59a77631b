use Rattle.acpi_base.specs.Entries.{entries_read_by}
use Rattle.acpi_base.specs.Madt.{madt_entry, madt_contents, Overrides}
use Rattle.acpi_check.proofs.EntryPasses.ValuesPass.{IsAt}
use Rattle.acpi_check.proofs.overrides.first_other_number.Given as goal

-- the first overrides of each Source so far are kept, and the others agree with them; the entries left are the rest of
-- the table's
abbrev pub invariant-loop-at : goal.invariant-loop-at
invariant-loop-at l =
    IsAt Overrides (madt_contents l.fn.madt).entries (entries_read_by madt_entry l.entries.entries.entries) l.firsts
