-- The lowest place of findings of two conditions, one of which holds at lower offsets than the other.
use Rattle.std.proofs.Common.{ℕ, ◌<◌, ◌≤◌, Option, Some, None, inl, inr, arith}
use Rattle.std.specs.Prelude.{◌⊎◌}
use Rattle.std.specs.Option.{option_or}
use Rattle.acpi_rules.specs.Places.{FindsLeast}
use Rattle.acpi_rules.specs.declared.place.Place.{Place}

-- P holds below the offset n alone, and Q from there on alone
pub first_of_two : {P Q : ℕ → ℕ → ℕ → Type 0} (n : ℕ) (one other : Option Place) → FindsLeast P one
    → FindsLeast Q other → ((at second third : ℕ) → P at second third → at < n)
    → ((at second third : ℕ) → Q at second third → n ≤ at)
    → FindsLeast (λ at second third. P at second third ⊎ Q at second third) (option_or one other)
first_of_two n None None none more below from = λ at second third either.
    elim either [ inl holds ↦ none at second third holds | inr holds ↦ more at second third holds ]
first_of_two n None (Some q) none more below from =
    record {
      here = inr more.here;
      least = λ at second third either.
          elim either [
            | inl holds ↦ absurd (none at second third holds)
            | inr holds ↦ more.least at second third holds
          ];
    }
first_of_two n (Some p) other first more below from =
    record {
      here = inl first.here;
      least = λ at second third either.
          elim either [
            | inl holds ↦ first.least at second third holds
            | inr holds ↦
                inl (omega (arith, below p.at p.other p.point first.here, from at second third holds))
          ];
    }
