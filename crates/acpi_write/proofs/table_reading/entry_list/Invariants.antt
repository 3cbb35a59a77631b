use Rattle.acpi_base.specs.Entries.{entries_read_by}
use Rattle.acpi_write.proofs.EntryBytes.EntryReading.{ListsSoFar}
use Rattle.acpi_write.proofs.table_reading.entry_list.Given as goal

-- what was found and the entries left are all entries
abbrev pub invariant-loop-item : goal.invariant-loop-item
invariant-loop-item g l =
    ListsSoFar g.E.TableEntry.value g.E.TableEntry.IsRead
    (entries_read_by g.E.TableEntry.said_by l.fn.entries.entries.entries)
    (entries_read_by g.E.TableEntry.said_by l.item-iterator.entries.entries) l.found.items
