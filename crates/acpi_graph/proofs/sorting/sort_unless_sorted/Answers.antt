use Rattle.std.proofs.Common.{◌≡◌, ℕ, ◌+◌, ◌<◌, true, false, List, [], ◌∷◌, length, get_or, arith, ap, sym, ◌∙◌, subst, refl, true≢false, Option, Ordering, Less, Equal, Greater}
use Rattle.std.specs.Ordering.{is_lt, is_le, is_some_and, ordering_reverse, partial_le}
use Rattle.std.specs.Cmp.{IsTotalOrder, Agrees}
use Rattle.std.specs.List.Sorted.{IsSorted}
use Rattle.acpi_graph.proofs.sorting.sort_unless_sorted.Goals as goal

not_above : (r : Ordering) → is_lt r ≡ false → is_le (ordering_reverse r) ≡ true
not_above Less below = absurd (true≢false below)
not_above Equal below = refl
not_above Greater below = refl

module _ {X : Type 0} (cmp : X → X → Ordering) (partial_cmp : X → X → Option Ordering) (total : IsTotalOrder cmp)
    (agree : Agrees partial_cmp cmp) where
  upto_next : (x y : X) → is_lt (cmp y x) ≡ false → partial_le partial_cmp x y ≡ true
  upto_next x y below =
      ap (is_some_and is_le) (agree x y) ∙ ap is_le (total.antisymm x y) ∙ not_above (cmp y x) below

  no_fall : (xs : List X) → IsSorted cmp xs → (k : ℕ) → k + 1 < length xs
      → ((d : X) → partial_le partial_cmp (get_or xs k d) (get_or xs (k + 1) d) ≡ false) → ⊥
  no_fall [] sorted k within falls = omega arith
  no_fall (x ∷ xs) sorted k within falls =
      true≢false (sym (upto_next (get_or (x ∷ xs) k x) (get_or (x ∷ xs) (k + 1) x) (sorted k x (omega arith) within))
      ∙ falls x)

pub returns-clause-in_order : goal.returns-clause-in_order
returns-clause-in_order g c sorted =
    let at = c.if-is_sorted.ensures.cases in
    absurd (no_fall g.T.Ord.cmp g.T.PartialOrd.partial_cmp g.met.T.Ord.total g.met.T.Ord.matches_partial_cmp
    c.deref.result.now (subst (IsSorted g.T.Ord.cmp) (sym c.deref.ensures.value) sorted) at.0 at.1 at.2)
