-- Cycles of chains of parents: a chain that returns to a node never ends.
use Rattle.std.proofs.Common.{◌≡◌, ◌≢◌, ℕ, ◌+◌, ◌-◌, ◌<◌, ◌≤◌, zero, suc, List, Option, Some, inl, inr, arith, refl, sym, ◌∙◌, ap, subst, add-zero}
use Rattle.std.specs.Prelude.{option_and_then}
use Rattle.std.proofs.Math.Nat.{add-suc}
use Rattle.std.proofs.lemmas.Bool.{cases_lt}
use Rattle.acpi_graph.specs.Parents.{parent_of, node_after, Ends, Returns, IsRound}
use Rattle.acpi_graph.proofs.Chains.{went_on}

-- from the lead on each index of a chain has the node of an index before the end of the first pass of the cycle
pub record FoldsBack (parents : List (Option ℕ)) (node lead round steps : ℕ) : Type 0 where
  pub place : ℕ
  pub from_lead : lead ≤ place
  pub in_round : place < lead + round
  pub same : node_after parents node (lead + steps) ≡ node_after parents node place

pub fold_back : (parents : List (Option ℕ)) (node lead round : ℕ) → Returns parents node lead round
    → (steps : ℕ) → FoldsBack parents node lead round steps
fold_back parents node lead round returns zero =
    let moves : 1 ≤ round = returns.moves in
    record { place = lead; from_lead = omega arith; in_round = omega arith; same = rw add-zero refl }
fold_back parents node lead round returns (suc steps) =
    let folded : FoldsBack parents node lead round steps = fold_back parents node lead round returns steps in
    let moves : 1 ≤ round = returns.moves in
    let low : lead ≤ folded.place = folded.from_lead in
    let high : folded.place < lead + round = folded.in_round in
    let next : node_after parents node (lead + suc steps) ≡ node_after parents node (suc folded.place) =
    rw add-suc (ap (option_and_then (parent_of parents)) folded.same) in
    elim (cases_lt (suc folded.place) (lead + round)) [
      | inl inside ↦ record { place = suc folded.place; from_lead = omega arith; in_round = inside; same = next }
      | inr wrapped ↦
          let top : suc folded.place ≡ lead + round = omega arith in
          record {
            place = lead;
            from_lead = omega arith;
            in_round = omega arith;
            same = next ∙ ap (node_after parents node) top ∙ returns.again ∙ sym returns.stands;
          }
    ]

pub never_ends : (parents : List (Option ℕ)) (node lead round : ℕ) → Returns parents node lead round
    → ¬ Ends parents node
never_ends parents node lead round returns (steps, over) = elim (cases_lt steps lead) [
  | inl before ↦
      let going = went_on parents node steps lead returns.there (omega arith) returns.stands in
      let here : node_after parents node steps ≡ Some going.0 = going.1 in
      cc
  | inr not_before ↦
      let folded : FoldsBack parents node lead round (steps - lead) =
      fold_back parents node lead round returns (steps - lead) in
      let at : lead + (steps - lead) ≡ steps = omega arith in
      let high : folded.place < lead + round = folded.in_round in
      let going = went_on parents node folded.place (lead + round) returns.there (omega arith) returns.again in
      let here : node_after parents node folded.place ≡ Some going.0 = going.1 in
      let there : node_after parents node steps ≡ node_after parents node folded.place =
      subst (λ k. node_after parents node k ≡ node_after parents node folded.place) at folded.same in
      cc
]

-- the node that a chain returns to for the first time: until then no node occurs twice
pub is_round : (parents : List (Option ℕ)) (node lead round : ℕ) → Returns parents node lead round
    → ((i j : ℕ) → i < j → j < lead + round → node_after parents node i ≢ node_after parents node j)
    → IsRound parents node lead round
is_round parents node lead round returns distinct =
    record { returns = returns; least_lead = least_lead; least_round = least_round }
  where
    least_round : (more : ℕ) → Returns parents node lead more → round ≤ more
    least_round more other = elim (cases_lt more round) [
      | inr longer ↦ longer
      | inl shorter ↦
          let moves : 1 ≤ more = other.moves in
          absurd (distinct lead (lead + more) (omega arith) (omega arith) (other.stands ∙ sym other.again))
    ]

    least_lead : (steps more : ℕ) → Returns parents node steps more → lead ≤ steps
    least_lead steps more other = elim (cases_lt steps lead) [
      | inr later ↦ later
      | inl earlier ↦
          let moves : 1 ≤ more = other.moves in
          elim (cases_lt (steps + more) (lead + round)) [
            | inl inside ↦ absurd (distinct steps (steps + more) (omega arith) inside (other.stands ∙ sym other.again))
            | inr outside ↦
                let folded : FoldsBack parents node lead round (steps + more - lead) =
                fold_back parents node lead round returns (steps + more - lead) in
                let low : lead ≤ folded.place = folded.from_lead in
                let at : lead + (steps + more - lead) ≡ steps + more = omega arith in
                let same : node_after parents node (steps + more) ≡ node_after parents node folded.place =
                subst (λ k. node_after parents node k ≡ node_after parents node folded.place) at folded.same in
                absurd (distinct steps folded.place (omega arith) folded.in_round
                (other.stands ∙ sym other.again ∙ same))
          ]
    ]
