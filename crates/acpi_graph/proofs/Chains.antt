-- Chains of parents: where they lead, and whether they end.
use Rattle.std.proofs.Common.{◌≡◌, ℕ, ◌+◌, ◌-◌, ◌<◌, ◌≤◌, ◌⊎◌, zero, suc, List, length, get_or, Option, None, Some, inl, inr, arith, refl, sym, ◌∙◌, ap, subst, add-zero}
use Rattle.std.specs.Prelude.{option_and_then, IfSome}
use Rattle.std.proofs.Math.Nat.{add-suc}
use Rattle.std.proofs.lemmas.Bool.{cases_lt}
use Rattle.std.proofs.lemmas.Option.{slice_get_cases}
use Rattle.acpi_graph.specs.Parents.{AreNodes, parent_of, node_after, Ends}

pub node_after-add : (parents : List (Option ℕ)) (node steps there : ℕ) → node_after parents node steps ≡ Some there
    → (more : ℕ) → node_after parents node (steps + more) ≡ node_after parents there more
node_after-add parents node steps there stands zero = rw add-zero stands
node_after-add parents node steps there stands (suc more) =
    rw add-suc (ap (option_and_then (parent_of parents)) (node_after-add parents node steps there stands more))

pub stays_over : (parents : List (Option ℕ)) (node steps : ℕ) → node_after parents node steps ≡ None
    → (more : ℕ) → node_after parents node (steps + more) ≡ None
stays_over parents node steps over zero = rw add-zero over
stays_over parents node steps over (suc more) =
    rw add-suc (ap (option_and_then (parent_of parents)) (stays_over parents node steps over more))

pub over_or_there : (o : Option ℕ) → (o ≡ None) ⊎ ((there : ℕ) × (o ≡ Some there))
over_or_there None = inl refl
over_or_there (Some there) = inr (there, refl)

pub went_on : (parents : List (Option ℕ)) (node steps later there : ℕ) → steps ≤ later
    → node_after parents node later ≡ Some there
    → (before : ℕ) × (node_after parents node steps ≡ Some before)
went_on parents node steps later there earlier stands = elim (over_or_there (node_after parents node steps)) [
  | inl over ↦
      let still : node_after parents node (steps + (later - steps)) ≡ None =
      stays_over parents node steps over (later - steps) in
      let at : steps + (later - steps) ≡ later = omega arith in
      let never : node_after parents node later ≡ None = subst (λ k. node_after parents node k ≡ None) at still in
      absurd cc
  | inr found ↦ found
]

pub ends_before : (parents : List (Option ℕ)) (node steps there : ℕ) → node_after parents node steps ≡ Some there
    → Ends parents there → Ends parents node
ends_before parents node steps there stands (more, over) =
    (steps + more, node_after-add parents node steps there stands more ∙ over)

pub ends_later : (parents : List (Option ℕ)) (node steps there : ℕ) → node_after parents node steps ≡ Some there
    → Ends parents node → Ends parents there
ends_later parents node steps there stands (last, over) = elim (cases_lt steps last) [
  | inl before ↦
      let at : steps + (last - steps) ≡ last = omega arith in (
        last - steps,
        sym (node_after-add parents node steps there stands (last - steps))
            ∙ ap (node_after parents node) at ∙ over,
      )
  | inr past ↦
      let at : last + (steps - last) ≡ steps = omega arith in
      let none : node_after parents node (last + (steps - last)) ≡ None =
      stays_over parents node last over (steps - last) in
      let gone : node_after parents node steps ≡ None = subst (λ k. node_after parents node k ≡ None) at none in
      absurd cc
]

pub parent_is_node : (parents : List (Option ℕ)) → AreNodes parents → (node parent : ℕ)
    → parent_of parents node ≡ Some parent → parent < length parents
parent_is_node parents nodes node parent up = elim (slice_get_cases parents node).1 [
  | inl inside ↦
      let is : inside.0 ≡ Some parent = subst (λ o. option_and_then (λ (p : Option ℕ). p) o ≡ Some parent) inside.2
      up in
      let at : get_or parents node inside.0 ≡ Some parent = inside.3 ∙ is in
      subst (λ o. IfSome o (λ (p : ℕ). p < length parents)) at (nodes node inside.0 inside.1)
  | inr past ↦
      let none : None ≡ Some parent = subst (λ o. option_and_then (λ (p : Option ℕ). p) o ≡ Some parent) past.1 up in
      absurd cc
]
