-- Ranges of numbers that overlap, and the order in which overlaps are reported. A relation `HoldsAt o s x` says that a
-- range at the offset o begins at s and contains the number x.
use Rattle.std.specs.Prelude.{◌≡◌, ◌≢◌, ℕ, ◌<◌, ◌≤◌, ◌⊎◌}

-- two ranges at different offsets, which begin at s and at t, both contain the number `point`
pub record IsIntervalOverlap (HoldsAt : ℕ → ℕ → ℕ → Type 0) (at other point : ℕ) : Type 0 where
  pub s : ℕ
  pub t : ℕ
  pub one_holds : HoldsAt at s point
  pub other_holds : HoldsAt other t point
  pub two : at ≢ other

-- no number is in two ranges
abbrev pub AreApart : (ℕ → ℕ → ℕ → Type 0) → Type 0
AreApart HoldsAt = (o p x : ℕ) → ¬ IsIntervalOverlap HoldsAt o p x

-- each number that two ranges contain is at least this one
abbrev pub AreApartBelow : (ℕ → ℕ → ℕ → Type 0) → ℕ → Type 0
AreApartBelow HoldsAt point = (o p x : ℕ) → IsIntervalOverlap HoldsAt o p x → point ≤ x

-- a range that begins at s and is at o comes before one that begins at t and is at p
abbrev pub ComesBefore : ℕ → ℕ → ℕ → ℕ → Type 0
ComesBefore s o t p = (s < t) ⊎ ((s ≡ t) × (o < p))

-- `point` is the lowest number that two ranges contain; of those that contain it, the one at `at` comes first and the one at
-- `other` second
pub record IsFirstIntervalOverlap (HoldsAt : ℕ → ℕ → ℕ → Type 0) (at other point : ℕ) : Type 0 where
  pub overlap : IsIntervalOverlap HoldsAt at other point
  pub in_order : ComesBefore overlap.s at overlap.t other
  pub others_after : (p u : ℕ) → HoldsAt p u point → p ≢ at → p ≢ other → ComesBefore overlap.t other u p
  pub least : AreApartBelow HoldsAt point
