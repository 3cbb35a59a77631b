use Rattle.acpi_base.specs.Entries.{entries_of, entries_read_by}
use Rattle.acpi_read.specs.EntryTables.{entry_table}
use Rattle.acpi_lint.specs.Places.{IsSoughtEntry, FindsOwn}
use Rattle.acpi_lint.proofs.FirstEntries.{IsPicking}
use Rattle.acpi_lint.proofs.passes.first_sought.Given as goal

-- none of the entries before those left is looked for
abbrev pub invariant-loop-at : goal.invariant-loop-at
invariant-loop-at g l =
    let E = g.E.TableEntry in
    IsPicking (FindsOwn (IsSoughtEntry (entry_table E.first E.said_by (E.IsOwn l.policy) E.IsSingle) l.sought))
    (entries_read_by E.said_by (entries_of E.first l.fn.table))
    (entries_read_by E.said_by l.at-iterator.entries.entries)
