use Rattle.std.proofs.Common.{◌≡◌}
use Rattle.acpi_base.specs.Entries.{entries_read_by}
use Rattle.acpi_base.specs.Madt.{madt_entry, madt_contents}
use Rattle.acpi_check.proofs.EntryPasses.TypedPass.{IsAt}
use Rattle.acpi_check.proofs.leaves.are_types_known.Given as goal

-- the entries so far are of known types, and those left are the rest of the table's
abbrev pub invariant-loop-entry : goal.invariant-loop-entry
invariant-loop-entry l =
    IsAt (madt_contents l.fn.madt) (entries_read_by madt_entry l.entries.entries)
    × (l.entries.cut ≡ (madt_contents l.fn.madt).cut)
