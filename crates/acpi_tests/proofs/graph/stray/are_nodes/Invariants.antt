use Rattle.std.proofs.Common.{ℕ, ◌<◌, Option, length, get_or}
use Rattle.std.specs.Prelude.{IfSome}
use Rattle.acpi_tests.proofs.graph.stray.are_nodes.Given as goal

abbrev pub invariant-loop-parent : goal.invariant-loop-parent
invariant-loop-parent l = (k : ℕ) (d : Option ℕ) → k < l.parent-index
    → IfSome (get_or l.parents k d) (λ node. node < length l.parents)
