use Rattle.std.proofs.Common.{◌≡◌, ◌+◌, ◌-◌, ◌≤◌, length}
use Rattle.std.specs.List.{AllAdjacentBelow}
use Rattle.acpi_graph.proofs.FirstOverlap.{EndsBy}
use Rattle.acpi_graph.proofs.clash.first_overlap.Given as goal

abbrev pub invariant-loop-next : goal.invariant-loop-next
invariant-loop-next l =
    (l.comparisons + 1 ≡ l.next) × (l.comparisons ≤ length l.spans - 1) × AllAdjacentBelow EndsBy l.spans l.next
