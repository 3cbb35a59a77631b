use Rattle.acpi_base.specs.Entries.{entries_read_by}
use Rattle.acpi_check.specs.CollectedValues.{Picks}
use Rattle.acpi_lint.proofs.FirstEntries.{IsPicking}
use Rattle.acpi_lint.proofs.passes.first_picked.Given as goal

-- nothing is picked from the entries before those left
abbrev pub invariant-loop-entry : goal.invariant-loop-entry
invariant-loop-entry g l =
    IsPicking (Picks g.E.TableEntry.value (goal.F-post g l.pick))
    (entries_read_by g.E.TableEntry.said_by l.fn.entries.entries.entries)
    (entries_read_by g.E.TableEntry.said_by l.entry-iterator.entries.entries)
