-- A reader or a writer with a count of its failures.
use Rattle.std.specs.Prelude.{◌≡◌, ◌⊎◌, ℕ, ◌+◌, ◌-◌, ◌^◌, refl}
use Rattle.std.specs.Coded.{Coded, code_by, coded×, coded_ℕ}

-- the reader or writer, and how many of its calls have failed
pub record CountedDevice (T : Type 0) : Type 0 where
  pub inner : T
  pub failures : ℕ

-- it is stored as the pair of its fields
abbrev pub counted_code : {T : Type 0} → Coded T → Coded (CountedDevice T)
counted_code {T} code =
    code_by (T × ℕ) (coded× code coded_ℕ) (λ t. (t.inner, t.failures)) (λ p. record { inner = p.0; failures = p.1 }) (λ _. refl)

-- the highest count: from there on every call fails, and the count stays
abbrev pub last_count : ℕ
last_count = 2 ^ 64 - 1

-- a failure is counted, from a count to a count
abbrev pub CountsFailure : ℕ → ℕ → Type 0
CountsFailure old new = (new ≡ old + 1) ⊎ ((old ≡ last_count) × (new ≡ last_count))
