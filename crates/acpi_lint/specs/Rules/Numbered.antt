-- Rules on numbers at places. A relation `HasAt at x` says that the number x is at the place `at`.
use Rattle.std.specs.Prelude.{ℕ, ◌<◌, ◌≤◌}

-- the number x is at `at`, and before it at `other`, which is its first place
pub record IsLater (HasAt : ℕ → ℕ → Type 0) (at other x : ℕ) : Type 0 where
  pub here : HasAt at x
  pub earlier : HasAt other x
  pub before : other < at
  pub first : (p : ℕ) → HasAt p x → other ≤ p
