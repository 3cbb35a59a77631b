-- The first place where one of two conditions holds, of which the second holds nowhere before the first.
use Rattle.std.proofs.Common.{◌≡◌, ℕ, ◌<◌, Option, Some, None, true, false, inl, inr}
use Rattle.std.specs.Option.{is_some}
use Rattle.std.specs.Prelude.{◌⊎◌}
use Rattle.acpi_rules.specs.Places.{FindsLeast}
use Rattle.acpi_rules.specs.declared.place.Place.{Place}
use Rattle.acpi_rules.proofs.LeastPlaces.{least_as}

-- one of the two holds
abbrev pub Either : (ℕ → ℕ → ℕ → Type 0) → (ℕ → ℕ → ℕ → Type 0) → ℕ → ℕ → ℕ → Type 0
Either P Q at other point = P at other point ⊎ Q at other point

-- the first holds nowhere
pub second_alone : (P Q : ℕ → ℕ → ℕ → Type 0) (none found : Option Place) → is_some none ≡ false → FindsLeast P none
    → FindsLeast Q found
    → FindsLeast (Either P Q) found
second_alone P Q None found nowhere first second =
    least_as found (λ at other point holds. inr holds)
    (λ at other point either.
    elim either [
      | inl holds ↦ absurd (first at other point holds)
      | inr holds ↦ holds
    ]) second
second_alone P Q (Some p) found nowhere first second = cc

-- the first holds somewhere
pub first_of_both : (P Q : ℕ → ℕ → ℕ → Type 0) (found : Option Place) → is_some found ≡ true → FindsLeast P found
    → ((a b c at other point : ℕ) → P a b c → Q at other point → a < at)
    → FindsLeast (Either P Q) found
first_of_both P Q None some first before = cc
first_of_both P Q (Some p) some first before =
    record {
      here = inl first.here;
      least = λ at other point either.
          elim either [
            | inl holds ↦ first.least at other point holds
            | inr holds ↦ inl (before p.at p.other p.point at other point first.here holds)
          ];
    }
