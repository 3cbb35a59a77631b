-- The numbers that a rule is about.
use Rattle.std.specs.Prelude.{◌≡◌, ℕ, ◌↔◌, Bool, not, ◌==◌, List, length, map, Contains, Some, None}
use Rattle.std.specs.List.{list_any}
use Rattle.std.specs.Option.{is_some}
use denote.Ref.{Bor}
use Rattle.acpi_rules.specs.Cases.{BorCase, Case, Said, SaidCase, SaidOne, case_said, case_value, gives}
use Rattle.acpi_rules.specs.Known.{first_of, told}
use Rattle.acpi_rules.specs.Sites.{SiteValue, sites_of}
use Rattle.acpi_rules.specs.Terms.{TwoTables}
use Rattle.acpi_rules.specs.declared.known.LookUp.{LookUp}
use Rattle.acpi_rules.specs.declared.numbered.Numbered.{Numbered}
use Rattle.acpi_rules.specs.declared.series.Path.{Path}

-- the path to the structures that give them, and the cases in which one gives a number; and the cases in which one gives a place at
-- which none of these counts
pub record Numbers : Type 0 where
  pub path : Path
  pub cases : List Case
  pub except_cases : List Case

-- a structure of the path gives this number
abbrev pub GivenIn : TwoTables → Path → List Case → Numbered → Type 0
GivenIn t path cases g = (s : SiteValue) × Contains (sites_of path t.table) s × (gives t cases s ≡ Some g)

-- whether one gives a number
abbrev pub gives_any : TwoTables → Path → List Case → Bool
gives_any t path cases = list_any (λ s. is_some (gives t cases s)) (sites_of path t.table)

-- one gives the number n
abbrev pub IsGiven : TwoTables → Path → List Case → ℕ → Type 0
IsGiven t path cases n = (g : Numbered) × GivenIn t path cases g × (g.number ≡ n)

-- the number counts
abbrev pub Counts : TwoTables → Numbers → Numbered → Type 0
Counts t n g = GivenIn t n.path n.cases g × (¬ IsGiven t n.path n.except_cases g.at)

-- whether there are places at which none counts
abbrev pub has_except : Numbers → Bool
has_except n = not (length n.except_cases == 0)

-- ---- the code's

abbrev pub BorNumbers : Type 0
BorNumbers = Bor Path × Bor (List BorCase) × Bor (List BorCase)

abbrev pub numbers_value : BorNumbers → Numbers
numbers_value n =
    record {
      path = n.0.now;
      cases = map case_value n.1.now;
      except_cases = map case_value n.2.now;
    }

-- a structure gives the number at another place than these
abbrev pub GivenBeside : TwoTables → Path → List Case → List Numbered → Numbered → Type 0
GivenBeside t path cases except g = GivenIn t path cases g × (first_of except g.at ≡ None)

-- among these are the places at which numbers do not count
abbrev pub AreExcepted : TwoTables → Numbers → List Numbered → Type 0
AreExcepted t n except =
    (g : Numbered) → GivenIn t n.path n.cases g
    → (first_of except g.at ≡ None) ↔ (¬ IsGiven t n.path n.except_cases g.at)

-- this is told of a number that a structure gives
abbrev pub IsToldOf : LookUp → TwoTables → Path → List Case → List Numbered → List Numbered → ℕ → ℕ → ℕ → Type 0
IsToldOf l t path cases except known at other point =
    (g : Numbered) × GivenIn t path cases g
    × (told l except known g ≡ Some (record { at = at; other = other; point = point }))

-- ---- the same as a constant has it

abbrev pub SaidNumbers : Type 0
SaidNumbers = SaidOne Path × Said SaidCase × Said SaidCase

abbrev pub numbers_said : SaidNumbers → Numbers
numbers_said n =
    record {
      path = n.0.now;
      cases = map case_said n.1.now;
      except_cases = map case_said n.2.now;
    }
