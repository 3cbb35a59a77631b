use Rattle.std.proofs.Common.{drop, map}
use Rattle.acpi_rules.specs.Rows.{row_value}
use Rattle.acpi_rules.specs.Terms.{tables_value}
use Rattle.acpi_lint.specs.RowGroups.{BreaksRow}
use Rattle.acpi_lint.proofs.RowFindings.{AreFirstsBut}
use Rattle.acpi_lint.proofs.row_findings.found_in.Given as goal

-- the first findings are there, but for the rows that are left
abbrev pub invariant-loop-row : goal.invariant-loop-row
invariant-loop-row l =
    AreFirstsBut (BreaksRow (tables_value l.tables)) (map row_value l.rows) (map row_value (drop l.row-index l.rows))
    l.found.items
