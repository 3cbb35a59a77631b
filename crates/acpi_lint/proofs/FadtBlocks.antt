-- The first register block for which a condition holds.
use Rattle.std.proofs.Common.{◌≡◌, ℕ, ◌+◌, ◌<◌, None, subst, inl, inr, arith}
use Rattle.std.proofs.lemmas.Bool.{cases_lt}
use Rattle.acpi_lint.specs.FadtPlaces.{IsOfBlock}
use Rattle.acpi_rules.specs.Places.{FindsLeast, IsLeast, IsNotAfter}
use Rattle.acpi_lint.specs.Rules.FadtBlocks.{block_at, OnBlock}
use Rattle.acpi_rules.specs.declared.place.Place.{Place}

-- it holds for none of the blocks before k
abbrev pub NoneBefore : (ℕ → ℕ → ℕ → Type 0) → ℕ → Type 0
NoneBefore Is k = (j at other point : ℕ) → j < k → ¬ IsOfBlock Is j at other point

pub first_block : (Is : ℕ → ℕ → ℕ → Type 0) (k : ℕ) (p : Place) → k < 8 → NoneBefore Is k → IsLeast (IsOfBlock Is k) p
    → IsLeast (OnBlock Is 0) p
first_block Is k p block before first =
    record {
      here = record { k = k; from = omega arith; block = block; place = first.here.0; is = first.here.1 };
      least = λ at other point it. upto at other point it.k it.place it.is;
    }
  where
    upto : (at other point j : ℕ) → at ≡ block_at j → Is j other point → IsNotAfter p at other point
    upto at other point j place is =
        elim (cases_lt j k) [
          | inl less ↦ absurd (before j at other point less (place, is))
          | inr from ↦
              elim (cases_lt k j) [
                | inl more ↦ inl (omega (arith, place, first.here.0, more))
                | inr back ↦
                    first.least at other point
                    (subst (λ (i : ℕ). IsOfBlock Is i at other point) (omega (arith, from, back)) (place, is))
              ]
        ]

pub none_with : (Is : ℕ → ℕ → ℕ → Type 0) (k : ℕ) → NoneBefore Is k → FindsLeast (IsOfBlock Is k) None
    → NoneBefore Is (k + 1)
none_with Is k before none j at other point less is =
    elim (cases_lt j k) [
      | inl earlier ↦ before j at other point earlier is
      | inr from ↦
          none at other point (subst (λ (i : ℕ). IsOfBlock Is i at other point) (omega (arith, less, from)) is)
    ]
