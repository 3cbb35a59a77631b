use Rattle.std.proofs.Common.{◌≡◌}
use Rattle.acpi_base.specs.Entries.{cut_of}
use Rattle.acpi_read.specs.EntryTables.{entry_table}
use Rattle.acpi_check.proofs.EntryPasses.TablePass.{IsAt}
use Rattle.acpi_check.proofs.entries.check_entries.Given as goal

-- the entries so far are valid, and those left are the rest of the table's
abbrev pub invariant-loop-entry : goal.invariant-loop-entry
invariant-loop-entry g l =
    let E = g.E.TableEntry in
    IsAt (entry_table E.first E.said_by (E.IsOwn l.policy) E.IsSingle) l.fn.table l.entries.entries l.earlier
    × (l.entries.cut ≡ cut_of E.first l.fn.table)
