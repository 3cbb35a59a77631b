use Rattle.std.proofs.Common.{drop}
use Rattle.acpi_rules.specs.Terms.{tables_value}
use Rattle.acpi_rules.proofs.GivenByRows.{AreGivenBut}
use Rattle.acpi_rules.proofs.row.given_by_any.Given as goal

-- the numbers are there, but for those of the rows that are left
abbrev pub invariant-loop-row : goal.invariant-loop-row
invariant-loop-row l = AreGivenBut (tables_value l.tables) l.rows (drop l.row-index l.rows) l.all.items
