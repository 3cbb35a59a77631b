-- Ranges of numbers that overlap: one begins at a number that is given, and its value says where it ends.
use Rattle.std.specs.Prelude.{◌≡◌, ◌≢◌, ℕ, ◌+◌, ◌<◌, ◌≤◌}
use Rattle.acpi_rules.specs.Numbered.{IsNotAbove}
use Rattle.acpi_rules.specs.declared.numbered.Numbered.{Numbered}
use Rattle.acpi_rules.specs.declared.overlap.Range.{Range}
use Rattle.acpi_rules.specs.declared.overlap.Range.TheVariants as range

-- the number after the range of g, which is empty if that is not above the first one
abbrev pub range_end : Range → Numbered → ℕ
range_end range.Count g = g.number + g.value
range_end range.Last g = g.value + 1

-- x is in the range of g
pub record IsInRange (r : Range) (g : Numbered) (x : ℕ) : Type 0 where
  pub from_start : g.number ≤ x
  pub below_end : x < range_end r g

-- the ranges of g and of f, which are at different places, both contain x
pub record AreShared (r : Range) (Has : Numbered → Type 0) (g f : Numbered) (x : ℕ) : Type 0 where
  pub one : Has g
  pub other : Has f
  pub two : g.at ≢ f.at
  pub one_holds : IsInRange r g x
  pub other_holds : IsInRange r f x

-- x is the lowest number that ranges at two places contain; of those that contain it, by their starts and then by their
-- places, g comes before all at other places, and f is the first of these
pub record IsFirstShared (r : Range) (Has : Numbered → Type 0) (g f : Numbered) (x : ℕ) : Type 0 where
  pub shared : AreShared r Has g f x
  pub least : (a b : Numbered) (y : ℕ) → AreShared r Has a b y → x ≤ y
  pub first : (h : Numbered) → Has h → IsInRange r h x → h.at ≢ g.at → IsNotAbove g h
  pub second : (h : Numbered) → Has h → IsInRange r h x → h.at ≢ g.at → IsNotAbove f h

-- `point` is the lowest number that ranges at two places contain, and `at` and `other` are the first two such places
abbrev pub IsOverlap : Range → (Numbered → Type 0) → ℕ → ℕ → ℕ → Type 0
IsOverlap r Has at other point =
    (g : Numbered) × (f : Numbered) × IsFirstShared r Has g f point × (at ≡ g.at) × (other ≡ f.at)
