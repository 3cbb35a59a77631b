-- Chains of nodes or of caches in a PPTT as chains of indices, and how they are collected.
use Rattle.std.specs.Prelude.{◌≡◌, ◌<◌, ℕ, List, length, map, slice_index, slice_index_or, Option, None, ◌≢◌, ◌↔◌, ◌⊎◌, AllPairs, Contains, option_map, Some}
use Rattle.std.specs.List.{filter_map}
use Rattle.acpi_base.specs.Pptt.{PpttContents}
use Rattle.acpi_base.specs.Chains.{IsAt, IsCycle}
use Rattle.acpi_base.specs.Entries.{PlacedEntry}
use Rattle.acpi_base.specs.declared.code.Code.{Code}
use Rattle.acpi_graph.specs.Parents as index
use Rattle.acpi_graph.specs.declared.stray.Stray.{Stray}
use Rattle.acpi_graph.specs.declared.stray.Stray.TheVariants as stray
use Rattle.acpi_check.specs.declared.nodes.Chain.{Chain}
use Rattle.acpi_check.specs.declared.nodes.Nodes.{Nodes}
use Rattle.acpi_check.specs.Chains.{IsFirstCycle, named_offset}

-- the index of p among the offsets, or none if p is 0 or is not among them
abbrev pub IsIndexOf : List ℕ → ℕ → Option ℕ → Type 0
IsIndexOf offsets p None = (p ≡ 0) ⊎ (¬ Contains offsets p)
IsIndexOf offsets p (Some j) = (p ≢ 0) × (j < length offsets) × (slice_index offsets j ≡ p)

-- the offsets are those of the nodes of the kind, in rising order, and the parent of each is the index of the offset
-- that it refers to
pub record AreIndexed (Names : ℕ → ℕ → Type 0) (offsets : List ℕ) (parents : List (Option ℕ)) : Type 0 where
  pub count : length parents ≡ length offsets
  pub rising : AllPairs (λ o p. o < p) offsets
  pub all : (o : ℕ) → Contains offsets o ↔ IsAt Names o
  pub named : (i p : ℕ) → i < length offsets → Names (slice_index offsets i) p → IsIndexOf offsets p (index.parent_of parents i)

-- what is found about the chains over these offsets: that none has a cycle, or the cycle that is reported
abbrev pub IsCycleResult : (ℕ → ℕ → Type 0) → ℕ → Code → List ℕ → Stray → Type 0
IsCycleResult Names most fault offsets stray.None = (o lead round : ℕ) → ¬ IsCycle Names most o lead round
IsCycleResult Names most fault offsets (stray.Round node lead round) =
    IsFirstCycle Names most fault (slice_index offsets node) lead round

-- a node of the kind: its offset, and the offset that it refers to
pub record ChainNode : Type 0 where
  pub offset : ℕ
  pub named : ℕ

-- those of entries, in their order
abbrev pub nodes_of : {E : Type 0} → (E → Option ℕ) → List (PlacedEntry E) → List ChainNode
nodes_of read entries =
    filter_map (λ s. option_map (λ p. record { offset = s.offset; named = p }) (read s.entry)) entries

-- their offsets
abbrev pub node_offsets : List ChainNode → List ℕ
node_offsets nodes = map (λ n. n.offset) nodes

-- each parent is the index of the node that the node with the same index refers to
pub record AreParents (nodes : List ChainNode) (parents : List (Option ℕ)) : Type 0 where
  pub count : length parents ≡ length nodes
  pub each : (i : ℕ) (n : ChainNode) → i < length nodes → IsIndexOf (node_offsets nodes) (slice_index_or nodes i n).named (slice_index_or parents i None)

-- the nodes of a table
abbrev pub nodes_in : Chain → PpttContents → List ChainNode
nodes_in links c = nodes_of (named_offset links) c.entries

-- these are the nodes
pub record AreNodesOf (links : Chain) (c : PpttContents) (nodes : Nodes) : Type 0 where
  pub offsets : nodes.offsets.items ≡ node_offsets (nodes_in links c)
  pub named : nodes.named.items ≡ map (λ n. n.named) (nodes_in links c)

-- each parent is the index of the node that the node with the same index refers to
pub record AreIndices (nodes : Nodes) (parents : List (Option ℕ)) : Type 0 where
  pub count : length parents ≡ length nodes.named.items
  pub each : (i : ℕ) → i < length nodes.named.items → IsIndexOf nodes.offsets.items (slice_index nodes.named.items i) (slice_index_or parents i None)
