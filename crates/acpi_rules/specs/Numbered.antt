-- Numbers with values at places, and those that occur again.
use Rattle.std.specs.Prelude.{◌≡◌, ◌≢◌, ℕ, ◌<◌, ◌≤◌, ◌⊎◌}
use Rattle.acpi_rules.specs.declared.numbered.Numbered.{Numbered}
use Rattle.acpi_rules.specs.declared.numbered.Repeat.{Repeat}
use Rattle.acpi_rules.specs.declared.numbered.Repeat.TheVariants as repeat
use Rattle.acpi_rules.specs.declared.place.Place.{Place}

-- a is at an earlier place than b, or at the same one with a value that is not greater
abbrev pub IsNoLater : Numbered → Numbered → Type 0
IsNoLater a b = (a.at < b.at) ⊎ ((a.at ≡ b.at) × (a.value ≤ b.value))

-- a's number is lower than b's, or it is the same and a's place is not later
abbrev pub IsNotAbove : Numbered → Numbered → Type 0
IsNotAbove a b = (a.number < b.number) ⊎ ((a.number ≡ b.number) × IsNoLater a b)

-- of the numbers that there are f is the first one that is the same as f's
pub record IsFirst (Has : Numbered → Type 0) (f : Numbered) : Type 0 where
  pub here : Has f
  pub least : (g : Numbered) → Has g → g.number ≡ f.number → IsNoLater f g

-- what is told of g, whose number is first at f: that it is there again, or that it has another value
abbrev pub IsTold : Repeat → Numbered → Numbered → Type 0
IsTold repeat.Twice g f = g.at ≢ f.at
IsTold repeat.Unlike g f = g.value ≢ f.value
IsTold repeat.UnlikeFirst g f = g.value ≢ f.value
IsTold repeat.UnlikeValue g f = g.value ≢ f.value
IsTold repeat.UnlikeNumber g f = g.value ≢ f.value
IsTold repeat.UnlikeValues g f = g.value ≢ f.value

-- the place at which it is reported
abbrev pub repeat_place : Repeat → Numbered → Numbered → Place
repeat_place repeat.Twice g f = record { at = g.at; other = f.at; point = g.value }
repeat_place repeat.Unlike g f = record { at = g.at; other = f.at; point = g.number }
repeat_place repeat.UnlikeFirst g f = record { at = f.at; other = g.at; point = g.number }
repeat_place repeat.UnlikeValue g f = record { at = g.at; other = f.at; point = g.value }
repeat_place repeat.UnlikeNumber g f = record { at = g.at; other = g.number; point = g.value }
repeat_place repeat.UnlikeValues g f = record { at = g.number; other = f.value; point = g.value }

-- of the numbers that there are f is the first one that is the same as g's, and this is told of g
pub record Repeats (r : Repeat) (Has : Numbered → Type 0) (g f : Numbered) : Type 0 where
  pub first : IsFirst Has f
  pub here : Has g
  pub same : g.number ≡ f.number
  pub told : IsTold r g f

-- a number is there again in the way that is told, which is reported with these numbers
abbrev pub IsRepeated : Repeat → (Numbered → Type 0) → ℕ → ℕ → ℕ → Type 0
IsRepeated r Has at other point =
    (g : Numbered) × (f : Numbered) × Repeats r Has g f
    × (repeat_place r g f ≡ record { at = at; other = other; point = point })
