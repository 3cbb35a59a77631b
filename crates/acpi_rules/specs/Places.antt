-- Places of findings: the lowest one.
use Rattle.std.specs.Prelude.{ℕ, [], ◌∷◌, Option, Some, None}
use Rattle.acpi_base.specs.Order.{AreNotAfter}
use Rattle.acpi_rules.specs.declared.place.Place.{Place}

-- the place comes before these numbers in the order of findings, or is equal to them
abbrev pub IsNotAfter : Place → ℕ → ℕ → ℕ → Type 0
IsNotAfter p at other point = AreNotAfter (p.at ∷ p.other ∷ p.point ∷ []) (at ∷ other ∷ point ∷ [])

-- P holds for the place's numbers, and for none before it
pub record IsLeast (P : ℕ → ℕ → ℕ → Type 0) (p : Place) : Type 0 where
  pub here : P p.at p.other p.point
  pub least : (at other point : ℕ) → P at other point → IsNotAfter p at other point

-- P holds for no numbers
abbrev pub HasNone : (ℕ → ℕ → ℕ → Type 0) → Type 0
HasNone P = (at other point : ℕ) → ¬ P at other point

-- P holds for no numbers, or this is the lowest place where it does
abbrev pub FindsLeast : (ℕ → ℕ → ℕ → Type 0) → Option Place → Type 0
FindsLeast P None = HasNone P
FindsLeast P (Some p) = IsLeast P p
