-- Elements that do not run into their neighbours run into none.
use Rattle.std.proofs.Common.{ℕ, ◌<◌, ◌≤◌, zero, suc, List, length, get_or, inl, inr, arith, add-one, sym, subst}
use Rattle.std.specs.List.{All, AllAdjacentBelow}
use Rattle.std.proofs.Math.Nat.{eq-or-lt_of_le}

-- If each element of a list ends by the beginning of the next one, it ends by the beginning of all that follow.
pub ends_before_later : {X : Type 0} (from to : X → ℕ) (xs : List X) (high : ℕ) → high ≤ length xs
    → All (λ x. from x ≤ to x) xs
    → AllAdjacentBelow (λ x y. to x ≤ from y) xs high
    → (i j : ℕ) (d : X) → i < j → j < high → to (get_or xs i d) ≤ from (get_or xs j d)
ends_before_later from to xs high within forward next i zero d before below = absurd (omega arith)
ends_before_later {X} from to xs high within forward next i (suc j) d before below =
    let step : to (get_or xs j d) ≤ from (get_or xs (suc j) d) = rw (← add-one) (next j d (omega arith)) in
    elim (eq-or-lt_of_le {n = i} {m = j} (omega arith)) [
      | inl same ↦ subst (λ k. to (get_or xs k d) ≤ from (get_or xs (suc j) d)) (sym same) step
      | inr earlier ↦
          let far : to (get_or xs i d) ≤ from (get_or xs j d) =
          ends_before_later from to xs high within forward next i j d earlier (omega arith) in
          let itself : from (get_or xs j d) ≤ to (get_or xs j d) = forward j d (omega arith) in
          omega arith
    ]
