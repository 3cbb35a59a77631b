-- A list whose elements are numbered in order.
use Rattle.std.proofs.Common.{◌≡◌, ℕ, zero, suc, ◌+◌, ◌<◌, Bool, true, ◌&&◌, List, [], ◌∷◌, length, get_or, ap, ◌∙◌, arith}
use Rattle.std.specs.Prelude.{◌==◌}
use Rattle.std.proofs.lemmas.Bool.{and_parts, eqb-true}

-- the elements have the numbers from n on
unfoldable pub are_numbered : {X : Type 0} → (X → ℕ) → ℕ → List X → Bool
are_numbered number n [] = true
are_numbered number n (x ∷ xs) = (number x == n) && are_numbered number (suc n) xs

pub numbered_at : {X : Type 0} (number : X → ℕ) (n : ℕ) (xs : List X) (k : ℕ) (d x : X) → k < length xs
    → x ≡ get_or xs k d → are_numbered number n xs ≡ true → number x ≡ n + k
unfolding are_numbered
numbered_at number n [] k d x within is all = absurd (omega arith)
numbered_at number n (y ∷ ys) zero d x within is all =
    let parts = and_parts (number y == n) (are_numbered number (suc n) ys) all in
    ap number is ∙ omega (arith, eqb-true (number y) n parts.0)
numbered_at number n (y ∷ ys) (suc k) d x within is all =
    let parts = and_parts (number y == n) (are_numbered number (suc n) ys) all in
    omega (arith, numbered_at number (suc n) ys k d x (omega arith) is parts.1)
