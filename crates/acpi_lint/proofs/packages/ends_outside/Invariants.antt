use Rattle.std.specs.Prelude.{Bool, count_by, not}
use Rattle.acpi_lint.specs.Rules.Hierarchy.{HasParent}
use Rattle.acpi_lint.proofs.OuterChains.{IsWalk}
use Rattle.acpi_lint.proofs.OuterNodes.{offsets}
use Rattle.acpi_lint.proofs.packages.ends_outside.Given as goal

-- the walk is at the offset, and has marked those where it was
abbrev pub invariant-loop-index : goal.invariant-loop-index
invariant-loop-index l = IsWalk (HasParent l.nodes) (offsets l.nodes) l.visited l.start l.offset

-- the nodes that are not marked
abbrev pub decreases-loop-index : goal.decreases-loop-index
decreases-loop-index l = count_by (λ (mark : Bool). not mark) l.visited
