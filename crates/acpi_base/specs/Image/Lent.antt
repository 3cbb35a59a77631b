-- The bytes that an image borrows, beside those that it has itself.
use Rattle.std.specs.Prelude.{◌≡◌, ℕ, ◌+◌, ◌<◌, ◌≤◌, min, List, [], ◌∷◌, ◌++◌, length, Option, None, Some, IsSome}
use Rattle.std.specs.List.{AllByRecursion, AllWithin}
use Rattle.acpi_base.specs.declared.image.parts.Parts.{Parts}
use Rattle.acpi_base.specs.Memory.{Memory}
use Rattle.acpi_base.specs.Image.Runs.{Run, end_of, lookup, memory_of, IsComplete}
use Rattle.acpi_base.specs.Image.Segments.{IsValid, runs_of}

-- an address that is not present lies between each run and all later ones
abbrev pub AreRunsApart : List Run → Type 0
AreRunsApart [] = Unit {0}
AreRunsApart (r ∷ rs) = AllByRecursion (λ q. end_of r < q.base) rs × AreRunsApart rs

-- runs that are lent
pub record AreLent (rs : List Run) : Type 0 where
  pub complete : AllByRecursion IsComplete rs
  pub apart : AreRunsApart rs

-- the runs before the index begin at the address or before it, the others after it
abbrev pub IsPlaceOf : List Run → ℕ → ℕ → Type 0
IsPlaceOf rs a i = AllWithin (λ r. r.base ≤ a) rs 0 i × AllWithin (λ r. a < r.base) rs i (length rs)

-- where one has a byte, the other has none, neither there nor next to it
pub record AreApart (f g : ℕ → Option ℕ) : Type 0 where
  pub here : (x : ℕ) → IsSome (f x) → g x ≡ None
  pub after : (x : ℕ) → IsSome (f x) → g (x + 1) ≡ None
  pub before : (x : ℕ) → IsSome (g x) → f (x + 1) ≡ None

-- an image's own segments, and the runs that are lent to it
pub record AreParts (p : Parts) : Type 0 where
  pub own : IsValid p.own
  pub lent : AreLent p.lent.items
  pub apart : AreApart (lookup p.lent.items) (lookup (runs_of p.own))

abbrev pub runs_of_parts : Parts → List Run
runs_of_parts p = p.lent.items ++ runs_of p.own

abbrev pub memory_of_parts : Parts → Memory
memory_of_parts p = memory_of (runs_of_parts p)

-- the lower one of two addresses, or the one that there is
abbrev pub lower : Option ℕ → Option ℕ → Option ℕ
lower None second = second
lower (Some first) None = Some first
lower (Some first) (Some second) = Some (min first second)
