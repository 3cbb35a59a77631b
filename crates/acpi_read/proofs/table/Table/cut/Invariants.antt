use Rattle.std.proofs.Common.{◌≡◌}
use Rattle.acpi_base.specs.Entries.{cut_of}
use Rattle.acpi_read.proofs.table.Table.cut.Given as goal

abbrev pub invariant-loop : goal.invariant-loop
invariant-loop g l = l.entries.cut ≡ cut_of g.E.TableEntry.first l.fn.self
