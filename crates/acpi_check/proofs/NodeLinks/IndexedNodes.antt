-- Nodes that are collected from the entries of a table, with the index of the node that each names, are chains of
-- offsets.
use Rattle.std.proofs.Common.{◌≡◌, ℕ, ◌<◌, List, length, get_or, Option, Some, None, refl, sym, ◌∙◌, ap, subst, inl, inr, arith}
use Rattle.std.specs.Prelude.{AllPairs, Contains, slice_index, option_map}
use Rattle.std.proofs.lemmas.Bool.{cases_order}
use Rattle.std.proofs.lemmas.List.{length-map, get_or-map}
use Rattle.std.proofs.lemmas.Option.{none-some, same_Some, slice_get-get_or}
use Rattle.acpi_base.specs.Chains.{IsAt}
use Rattle.acpi_base.specs.Entries.{PlacedEntry, Stands}
use Rattle.acpi_base.proofs.Options.{cases_Option}
use Rattle.acpi_base.proofs.Elements.{element_of_map}
use Rattle.acpi_graph.specs.Parents.{parent_of}
use Rattle.acpi_check.specs.ChainIndices.{IsIndexOf, AreIndexed, ChainNode, nodes_of, node_offsets, AreParents}
use Rattle.acpi_check.proofs.EntryPasses.Kept.{AreRising, map_has, kept_has, kept_from, keys_rise}

-- an entry names an offset
abbrev pub NamesOf : {E : Type 0} → (E → Option ℕ) → List (PlacedEntry E) → ℕ → ℕ → Type 0
NamesOf {E} read entries o p = (e : E) × Stands entries o e × (read e ≡ Some p)

-- the offset of an entry and the one that it names, if it names an offset
abbrev kept : {E : Type 0} → (E → Option ℕ) → PlacedEntry E → Option ChainNode
kept read s = option_map (λ p. record { offset = s.offset; named = p }) (read s.entry)

kept_is : {E : Type 0} (read : E → Option ℕ) (s : PlacedEntry E) (n : ChainNode) → kept read s ≡ Some n
    → (n.offset ≡ s.offset) × (read s.entry ≡ Some n.named)
kept_is read s n is =
    elim (cases_Option (read s.entry)) [
      | inr none ↦ absurd (none-some n (rw none at is))
      | inl (p, gives) ↦ (let same = same_Some (record { offset = s.offset; named = p }) n (rw gives at is) in
          (sym (ap (λ (m : ChainNode). m.offset) same), gives ∙ ap (λ (m : ChainNode). Some m.named) same))
    ]

is_kept : {E : Type 0} (read : E → Option ℕ) (entries : List (PlacedEntry E)) (o p : ℕ) → NamesOf read entries o p
    → Contains (nodes_of read entries) (record { offset = o; named = p })
is_kept {E} read entries o p (e, stands, is) =
    kept_has (kept read) entries (record { offset = o; entry = e }) (record { offset = o; named = p }) stands
    (rw is refl)

nodes_rise : {E : Type 0} (read : E → Option ℕ) (low : ℕ) (entries : List (PlacedEntry E)) → AreRising low entries
    → AllPairs (λ n m. n.offset < m.offset) (nodes_of read entries)
nodes_rise read low entries rises =
    keys_rise (kept read) (λ n. n.offset) (λ s n is. (kept_is read s n is).0) low entries rises

pub offsets_rise : {E : Type 0} (read : E → Option ℕ) (low : ℕ) (entries : List (PlacedEntry E)) → AreRising low entries
    → AllPairs (λ o p. o < p) (node_offsets (nodes_of read entries))
offsets_rise {E} read low entries rises =
    λ i j d before below. grind (
      arith,
      nodes_rise read low entries rises i j node before,
      get_or-map (λ (n : ChainNode). n.offset) nodes,
      length-map nodes (λ n. n.offset),
    )
  where
    nodes : List ChainNode
    nodes = nodes_of read entries

    node : ChainNode
    node = record { offset = 0; named = 0 }

one_node : (nodes : List ChainNode) → AllPairs (λ n m. n.offset < m.offset) nodes → (n : ChainNode) → Contains nodes n
    → (i : ℕ) → i < length nodes → (get_or nodes i n).offset ≡ n.offset → get_or nodes i n ≡ n
one_node nodes rise n (k, below, is) i within same =
    elim (cases_order i k) [
      | inl here ↦ rw here is
      | inr (inl less) ↦ absurd (omega (arith, rise i k n less below, same, ap (λ (m : ChainNode). m.offset) is))
      | inr (inr more) ↦ absurd (omega (arith, rise k i n more within, same, ap (λ (m : ChainNode). m.offset) is))
    ]

pub are_indexed : {E : Type 0} (read : E → Option ℕ) (low : ℕ) (entries : List (PlacedEntry E)) → AreRising low entries
    → (parents : List (Option ℕ)) → AreParents (nodes_of read entries) parents
    → AreIndexed (NamesOf read entries) (node_offsets (nodes_of read entries)) parents
are_indexed {E} read low entries rises parents each =
    record {
      count = omega (arith, length-map nodes (λ n. n.offset), each.count);
      rising = offsets_rise read low entries rises;
      all = λ o. (
        stands o,
        λ here. map_has (λ (n : ChainNode). n.offset) nodes (record { offset = o; named = here.0 })
            (is_kept read entries o here.0 here.1),
      );
      named = named;
    }
  where
    nodes : List ChainNode
    nodes = nodes_of read entries

    stands : (o : ℕ) → Contains (node_offsets nodes) o → IsAt (NamesOf read entries) o
    stands o here =
        let (n, listed, place) = element_of_map (λ (n : ChainNode). n.offset) nodes o here in
        let (s, found, is) = kept_from (kept read) entries n listed in
        let same = kept_is read s n is in
        (n.named, (s.entry, subst (λ (k : ℕ). Stands entries k s.entry) (sym same.0 ∙ place) found, same.1))

    named : (i p : ℕ) → i < length (node_offsets nodes) → NamesOf read entries (slice_index (node_offsets nodes) i) p
        → IsIndexOf (node_offsets nodes) p (parent_of parents i)
    named i p within names =
        let n : ChainNode = record { offset = slice_index (node_offsets nodes) i; named = p } in
        let inside : i < length nodes = omega (arith, within, length-map nodes (λ n. n.offset)) in
        let is = one_node nodes (nodes_rise read low entries rises) n (is_kept read entries n.offset p names) i inside
        (sym (get_or-map (λ (n : ChainNode). n.offset) nodes i n 0 inside)) in
        let index = rw is at (each.each i n inside) in
        rw (slice_get-get_or parents i None (omega (arith, inside, each.count))) index
