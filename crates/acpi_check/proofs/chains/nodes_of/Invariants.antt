use Rattle.std.proofs.Common.{◌≡◌, ◌++◌, map}
use Rattle.acpi_base.specs.Entries.{entries_read_by}
use Rattle.acpi_base.specs.Pptt.{pptt_entry, pptt_contents}
use Rattle.acpi_check.specs.Chains.{named_offset}
use Rattle.acpi_check.specs.ChainIndices.{nodes_of, node_offsets, nodes_in}
use Rattle.acpi_check.proofs.chains.nodes_of.Given as goal

-- the nodes so far, with those of the entries left, are the table's
abbrev pub invariant-loop-at : goal.invariant-loop-at
invariant-loop-at l =
    (l.offsets.items ++ node_offsets
    (nodes_of (named_offset l.fn.chain) (entries_read_by pptt_entry l.at-iterator.entries.entries)) ≡ node_offsets
    (nodes_in l.fn.chain (pptt_contents l.fn.pptt)))
    × (l.named.items ++ map (λ n. n.named)
    (nodes_of (named_offset l.fn.chain) (entries_read_by pptt_entry l.at-iterator.entries.entries)) ≡ map
    (λ n. n.named) (nodes_in l.fn.chain (pptt_contents l.fn.pptt)))
