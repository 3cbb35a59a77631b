use Rattle.std.proofs.Common.{drop}
use Rattle.acpi_lint.proofs.RowFindings.{IsLowestBut}
use Rattle.acpi_lint.proofs.row_findings.lowest_of.Given as goal

-- the lowest of all but those that are left
abbrev pub invariant-loop-finding : goal.invariant-loop-finding
invariant-loop-finding l = IsLowestBut l.fn.one l.found (drop l.finding-index l.found) l.number l.lowest
