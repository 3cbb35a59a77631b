-- Nodes that are collected from a PPTT, with the index of the node that each names, are its chains.
use Rattle.std.proofs.Common.{◌≡◌, ℕ, ◌+◌, ◌<◌, ◌≤◌, List, length, map, Option, None, ap, arith}
use Rattle.std.specs.Prelude.{◌↔◌, AllPairs, slice_index_or}
use Rattle.std.proofs.lemmas.List.{length-map, get_or-map}
use Rattle.acpi_base.specs.Pptt.{pptt_contents}
use Rattle.acpi_base.proofs.Chains.{IsNumbered}
use Rattle.acpi_base.proofs.Pptt.Places.{nodes_numbered, caches_numbered}
use Rattle.acpi_graph.specs.Parents as graph
use Rattle.acpi_graph.specs.Parents.{AreNodes, IsFirstStray, IfRound}
use Rattle.acpi_graph.specs.declared.stray.Stray.{Stray}
use Rattle.acpi_graph.specs.declared.stray.Stray.TheVariants as stray
use Rattle.acpi_check.specs.Chains.{Names, named_offset, most_of, code_of}
use Rattle.acpi_check.specs.ChainIndices.{AreIndexed, IsCycleResult, IsIndexOf, ChainNode, node_offsets, nodes_in, AreNodesOf, AreIndices}
use Rattle.acpi_check.specs.declared.nodes.Chain.{Chain}
use Rattle.acpi_check.specs.declared.nodes.Chain.TheVariants as chain
use Rattle.acpi_check.specs.declared.nodes.Nodes.{Nodes}
use Rattle.acpi_check.proofs.NodeLinks.ChainIndices.{are_nodes, is_found}
use Rattle.acpi_check.proofs.NodeLinks.IndexedNodes.{offsets_rise, are_indexed}
use Rattle.acpi_check.proofs.EntryPasses.Kept.{pptt_rising}

-- ---- nodes

pub nodes_rise : (links : Chain) (whole : List ℕ) (nodes : Nodes) → AreNodesOf links (pptt_contents whole) nodes
    → AllPairs (λ o p. o < p) nodes.offsets.items
nodes_rise links whole nodes are =
    rw (are.offsets) (offsets_rise (named_offset links) 36 (pptt_contents whole).entries (pptt_rising whole))

pub indexed : (links : Chain) (whole : List ℕ) (nodes : Nodes) (parents : List (Option ℕ))
    → AreNodesOf links (pptt_contents whole) nodes → AreIndices nodes parents
    → AreIndexed (Names links (pptt_contents whole)) nodes.offsets.items parents
indexed links whole nodes parents are indices =
    rw (are.offsets) (are_indexed (named_offset links) 36 (pptt_contents whole).entries (pptt_rising whole) parents
    (record { count = omega (arith, indices.count, ap length are.named, size); each = each }))
  where
    gathered : List ChainNode
    gathered = nodes_in links (pptt_contents whole)

    size : length (map (λ n. n.named) gathered) ≡ length gathered
    size = length-map gathered (λ (n : ChainNode). n.named)

    each : (i : ℕ) (n : ChainNode) → i < length gathered
        → IsIndexOf (node_offsets gathered) (slice_index_or gathered i n).named (slice_index_or parents i None)
    each i n within =
        let index = rw (are.offsets, are.named) at
        (indices.each i (omega (arith, within, ap length are.named, size))) in
        rw (← get_or-map (λ (n : ChainNode). n.named) gathered i n 0 within) index

-- ---- what is found

numbered : (links : Chain) (whole : List ℕ)
    → IsNumbered (Names links (pptt_contents whole)) (most_of links (pptt_contents whole))
numbered chain.Parents whole = nodes_numbered whole
numbered chain.NextLevels whole = caches_numbered whole

pub ready : (links : Chain) (whole : List ℕ) (nodes : Nodes) (parents : List (Option ℕ))
    → AreNodesOf links (pptt_contents whole) nodes → AreIndices nodes parents → AreNodes parents
ready links whole nodes parents are indices = are_nodes (indexed links whole nodes parents are indices)

-- what `first_stray` finds holds for the chains
pub cycle_found : (links : Chain) (whole : List ℕ) (nodes : Nodes) (parents : List (Option ℕ))
    → AreNodesOf links (pptt_contents whole) nodes → AreIndices nodes parents → (found : Stray)
    → ((found ≡ stray.None) ↔ graph.AllEnd parents) → IfRound found (IsFirstStray parents)
    → IfRound found (λ node lead round. lead + round ≤ length parents)
    → IsCycleResult (Names links (pptt_contents whole)) (most_of links (pptt_contents whole)) (code_of links)
    nodes.offsets.items found
cycle_found links whole nodes parents are indices found none first within =
    is_found (indexed links whole nodes parents are indices) (numbered links whole) (code_of links) found none first
    within

-- a node that it finds has an offset
pub has_offset : (links : Chain) (whole : List ℕ) (nodes : Nodes) (parents : List (Option ℕ))
    → AreNodesOf links (pptt_contents whole) nodes → AreIndices nodes parents → (node lead round : ℕ)
    → IsFirstStray parents node lead round → node < length nodes.offsets.items
has_offset links whole nodes parents are indices node lead round first =
    omega (arith, first.is_node, (indexed links whole nodes parents are indices).count)
