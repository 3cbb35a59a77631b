use Rattle.std.proofs.Common.{ℕ, ◌<◌, get_or}
use Rattle.acpi_base.specs.Chains.{Ends}
use Rattle.acpi_lint.specs.Hierarchy.{AreNoneOutside, none}
use Rattle.acpi_lint.specs.Rules.Hierarchy.{HasParent}
use Rattle.acpi_lint.proofs.packages.first_outside.Given as goal

-- no chain from a leaf before this one ends, nor one from a node that is marked
abbrev pub invariant-loop-leaf : goal.invariant-loop-leaf
invariant-loop-leaf l =
    AreNoneOutside l.nodes l.visited
    × ((j : ℕ) → j < l.leaf-index → ¬ Ends (HasParent l.nodes) (get_or l.leaves j none).number)
