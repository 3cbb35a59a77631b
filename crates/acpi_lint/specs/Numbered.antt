-- Values that are given to numbers at places, such as offsets or slots.
use Rattle.std.specs.Prelude.{◌≡◌, ℕ, ◌<◌, ◌↔◌, Bool, ◌==◌, if◌then◌else◌, List, [], ◌∷◌, AllPairs, Contains, Option, Some, None}
use Rattle.std.specs.List.{list_any}
use Rattle.acpi_rules.specs.declared.numbered.Numbered.{Numbered}

-- the number n at a place, which is also its value there
abbrev pub at_place : ℕ → ℕ → Numbered
at_place at n = record { number = n; at = at; value = at }

-- it is among these
abbrev pub HasAt : List Numbered → ℕ → ℕ → Type 0
HasAt given at n = Contains given (at_place at n)

-- these are the numbers at places by `StandsAt at n`, each with its place as its value; the places rise
pub record AreNumbersAt (StandsAt : ℕ → ℕ → Type 0) (given : List Numbered) : Type 0 where
  pub rise : AllPairs (λ a b. a.at < b.at) given
  pub placed : (g : Numbered) → Contains given g → g.value ≡ g.at
  pub all : (at n : ℕ) → HasAt given at n ↔ StandsAt at n

-- ---- ranges of numbers: each is at its start, and its value says how many numbers it has

-- a range of n numbers from s on
abbrev pub range_at : ℕ → ℕ → Numbered
range_at s n = record { number = s; at = s; value = n }

-- `Is s n` says that a range has n numbers from s on: this is the only one, or there is none
abbrev pub FindsRange : (ℕ → ℕ → Type 0) → Option Numbered → Type 0
FindsRange Is None = (s n : ℕ) → ¬ Is s n
FindsRange Is (Some g) =
    (g.at ≡ g.number) × Is g.number g.value × ((s n : ℕ) → Is s n → (s ≡ g.number) × (n ≡ g.value))

-- whether one of these begins at s
abbrev pub begins_at : List Numbered → ℕ → Bool
begins_at given s = list_any (λ g. g.number == s) given

-- what was found, if none of these begins there
abbrev pub first_only : List Numbered → Option Numbered → List Numbered
first_only given None = []
first_only given (Some g) = if begins_at given g.number then [] else g ∷ []
