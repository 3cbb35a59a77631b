use Rattle.acpi_base.specs.Entries.{entries_read_by}
use Rattle.acpi_write.proofs.EntryBytes.EntryReading.{list_begins, list_more, list_ends}
use Rattle.acpi_write.proofs.table_reading.entry_list.Goals as goal

pub loop-item-init : goal.loop-item-init
loop-item-init g c =
    rw c.into_iter-item-iterator.ensures.into_iter_gives
    (list_begins g.E.TableEntry.value g.E.TableEntry.IsRead
    (entries_read_by g.E.TableEntry.said_by c.args.entries.entries.entries) c.new-found.result.items
    c.new-found.ensures.items)

pub loop-item-preserved : goal.loop-item-preserved
loop-item-preserved g c =
    let step = c.in-Some.ensures.steps in
    list_more g.E.TableEntry.value g.E.TableEntry.IsRead
    (entries_read_by g.E.TableEntry.said_by c.args.entries.entries.entries) _ _ c.loop-item.found.items
    c.push.new.self.items c.in-Some.item c.in_ok-push.ensures.items step.0 step.1 c.loop-item.invariant

pub returns-clause-entries : goal.returns-clause-entries
returns-clause-entries g c =
    list_ends g.E.TableEntry.value g.E.TableEntry.IsRead
    (entries_read_by g.E.TableEntry.said_by c.args.entries.entries.entries) _ c.loop-item.found.items
    c.in-None.ensures.steps.0 c.loop-item.invariant
