use Rattle.std.proofs.Common.{◌≡◌, ℕ, ◌<◌, length, None}
use Rattle.std.specs.Prelude.{slice_index, slice_index_or}
use Rattle.acpi_check.specs.ChainIndices.{IsIndexOf}
use Rattle.acpi_check.proofs.chains.parents_of.Given as goal

-- each parent so far is the index of the node that the node with its index names
abbrev pub invariant-loop-k : goal.invariant-loop-k
invariant-loop-k l =
    (length l.parents.items ≡ l.k)
    × ((i : ℕ) → i < l.k → IsIndexOf l.fn.nodes.offsets.items (slice_index l.fn.nodes.named.items i)
    (slice_index_or l.parents.items i None))
