-- Numbers that two lists have a different number of times.
use Rattle.std.specs.Prelude.{◌≡◌, ◌≢◌, ℕ, ◌≤◌, ◌==◌, if◌then◌else◌, min, List, [], ◌∷◌, Option, Some, None}
use Rattle.acpi_lint.specs.Rules.RootAdvice.{times_in}

-- the lower one of the first two that differ, or the first one that only one of the lists has
unfoldable pub first_difference : List ℕ → List ℕ → Option ℕ
first_difference [] [] = None
first_difference [] (k ∷ theirs) = Some k
first_difference (n ∷ ours) [] = Some n
first_difference (n ∷ ours) (k ∷ theirs) =
    if n == k then first_difference ours theirs else Some (min n k)

-- the lists have this number a different number of times, and no lower one; or they have each equally often
abbrev pub FindsDifference : List ℕ → List ℕ → Option ℕ → Type 0
FindsDifference ours theirs None = (n : ℕ) → times_in ours n ≡ times_in theirs n
FindsDifference ours theirs (Some n) =
    (times_in ours n ≢ times_in theirs n) × ((k : ℕ) → times_in ours k ≢ times_in theirs k → n ≤ k)
