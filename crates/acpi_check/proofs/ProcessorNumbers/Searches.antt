-- Numbers that rise, and what a binary search finds among them.
use Rattle.std.proofs.Common.{◌≡◌, ℕ, ◌<◌, ◌≤◌, List, length, get_or, eqb, inl, inr, arith}
use Rattle.std.specs.Prelude.{◌↔◌, AllPairs, Contains, MatchOption, slice_index, Result, Ok, Err}
use Rattle.std.specs.List.{dedup}
use Rattle.std.specs.List.Sorted.{IsPermutation, IsSorted}
use Rattle.std.specs.Ordering.{nat_cmp}
use Rattle.std.specs.Result.{MatchResult, result_ok}
use Rattle.std.proofs.lemmas.Bool.{cases_order, cases_lt}
use Rattle.std.proofs.lemmas.List.{get_or_default}
use Rattle.std.proofs.lemmas.List.Kept.{AllPairs-from_increasing, Contains-dedup_nat, Contains-from_dedup}
use Rattle.std.proofs.lemmas.List.Sorted.{Contains-permutation, IsPermutation-sym}
use Rattle.std.proofs.lemmas.Map.Keys.{IsStrictlyIncreasing-dedup}

pub never_falls : (xs : List ℕ) → AllPairs (λ x y. x < y) xs → (i j : ℕ) → i ≤ j → j < length xs
    → get_or xs i 0 ≤ get_or xs j 0
never_falls xs rise i j least within =
    elim (cases_order i j) [
      | inl same ↦ rw same (omega arith)
      | inr (inl less) ↦
          omega (arith, rise i j 0 less within)
      | inr (inr more) ↦ absurd (omega arith)
    ]

-- if those before an index are less than x, and those from there on greater, x is not among them
pub found : (xs : List ℕ) (x : ℕ) (r : Result ℕ ℕ)
    → MatchResult r (λ i. (i < length xs) × (get_or xs i 0 ≡ x))
    (λ i. (i ≤ length xs) × ((k : ℕ) → k < i → get_or xs k 0 < x)
    × ((k : ℕ) → i ≤ k → k < length xs → x < get_or xs k 0))
    → MatchOption (result_ok r) (¬ Contains xs x) (λ k. (k < length xs) × (slice_index xs k ≡ x))
found xs x (Ok i) here = here
found xs x (Err i) here =
    λ (k, within, is).
    let at = get_or_default xs k 0 x within in
    elim (cases_lt k i) [
      | inl before ↦ omega (arith, here.1 k before, is)
      | inr behind ↦
          omega (arith, here.2 k behind within, is)
    ]

pub in_order : (xs sorted kept : List ℕ) → IsPermutation xs sorted → IsSorted nat_cmp sorted → kept ≡ dedup eqb sorted
    → AllPairs (λ x y. x < y) kept × ((x : ℕ) → Contains kept x ↔ Contains xs x)
in_order xs sorted kept moved order is = (
  rw is (AllPairs-from_increasing (dedup eqb sorted) (IsStrictlyIncreasing-dedup sorted order)),
  λ x. (
    λ listed. Contains-permutation sorted xs x (IsPermutation-sym xs sorted moved)
        (Contains-from_dedup eqb sorted x (rw is at listed)),
    λ listed. rw is (Contains-dedup_nat sorted x (Contains-permutation xs sorted x moved listed)),
  ),
)
