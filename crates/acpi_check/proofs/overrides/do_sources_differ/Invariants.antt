use Rattle.std.proofs.Common.{◌≡◌, length}
use Rattle.acpi_base.specs.Entries.{entries_read_by}
use Rattle.acpi_base.specs.Madt.{madt_entry, madt_contents, Overrides}
use Rattle.acpi_check.proofs.EntryPasses.DifferentKeys.{DoDifferTo}
use Rattle.acpi_check.proofs.overrides.do_sources_differ.Given as goal

-- the Sources of overrides so far are marked and differ, and the entries left are the rest of the table's
abbrev pub invariant-loop-at : goal.invariant-loop-at
invariant-loop-at l =
    (length l.seen ≡ 256)
    × DoDifferTo Overrides (madt_contents l.fn.madt).entries (entries_read_by madt_entry l.entries.entries.entries)
    l.seen
