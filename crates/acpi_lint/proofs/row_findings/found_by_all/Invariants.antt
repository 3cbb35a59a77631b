use Rattle.std.proofs.Common.{drop, map}
use Rattle.acpi_lint.specs.RowFindings.{AreBroken}
use Rattle.acpi_lint.specs.RowGroups.{group_value}
use Rattle.acpi_lint.proofs.RowFindings.{AreFirstsBut}
use Rattle.acpi_lint.proofs.row_findings.found_by_all.Given as goal

-- the first findings are there, but for the groups that are left
abbrev pub invariant-loop-group : goal.invariant-loop-group
invariant-loop-group l =
    AreFirstsBut (AreBroken l.tables) (map group_value l.groups) (map group_value (drop l.group-index l.groups))
    l.found.items
