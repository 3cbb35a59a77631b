-- Rules as rows: what a row says of its tables.
use Rattle.std.specs.Prelude.{◌≡◌, ℕ, Bool, true, false, not, ◌||◌, ◌==◌, List, length, map, nat_le, Contains, Option, Some, option_map, IsSomeAnd}
use Rattle.std.specs.List.{filter_map, list_all}
use Rattle.std.specs.Option.{is_none, option_map_or}
use denote.Ref.{Bor}
use Rattle.acpi_rules.specs.Cases.{BorCase, Case, Said, SaidCase, SaidOne, case_said, case_value, first_some, gives}
use Rattle.acpi_rules.specs.Known.{is_reported, other_told}
use Rattle.acpi_rules.specs.Numbered.{IsFirst, IsRepeated}
use Rattle.acpi_rules.specs.Numbers.{BorNumbers, Counts, Numbers, SaidNumbers, gives_any, has_except, numbers_said, numbers_value}
use Rattle.acpi_rules.specs.Overlaps.{IsOverlap}
use Rattle.acpi_rules.specs.Sites.{first_cut, sites_of}
use Rattle.acpi_rules.specs.Terms.{TwoTables}
use Rattle.acpi_rules.specs.declared.known.LookUp.{LookUp}
use Rattle.acpi_rules.specs.declared.known.LookUp.TheVariants as lookup
use Rattle.acpi_rules.specs.declared.numbered.Numbered.{Numbered}
use Rattle.acpi_rules.specs.declared.row.Form.{Form}
use Rattle.acpi_rules.specs.declared.row.Form.TheVariants as form
use Rattle.acpi_rules.specs.declared.row.Need.{Need}
use Rattle.acpi_rules.specs.declared.row.Need.TheVariants as need
use Rattle.acpi_rules.specs.declared.row.Source.{Source}
use Rattle.acpi_rules.specs.declared.row.Source.TheVariants as source
use Rattle.acpi_rules.specs.declared.series.Path.{Path}

-- a condition: what is wanted, of the structures of which table and path, and the cases in which one gives a number
pub record Guard : Type 0 where
  pub need : Need
  pub source : Source
  pub path : Path
  pub cases : List Case

-- numbers among which others are looked up, and the table that they are in
pub record Known : Type 0 where
  pub source : Source
  pub numbers : Numbers

-- a rule: its number, what is reported, conditions that all hold, the numbers that it is about, and those among which they are
-- looked up, if they are
pub record Row : Type 0 where
  pub number : ℕ
  pub form : Form
  pub guards : List Guard
  pub numbers : Numbers
  pub known : Option Known

-- the tables as a path through one of them sees them
abbrev pub of_source : Source → TwoTables → TwoTables
of_source source.Table t = t
of_source source.Other t = record { table = t.other; other = t.table }

-- whether more than one structure of the path gives a number
abbrev pub gives_two : TwoTables → Path → List Case → Bool
gives_two t path cases = nat_le 2 (length (filter_map (gives t cases) (sites_of path t.table)))

-- whether the first structure of the path that gives a number gives another than 0
abbrev pub first_is_some : TwoTables → Path → List Case → Bool
first_is_some t path cases =
    option_map_or (λ g. not (g.number == 0)) (first_some (gives t cases) (sites_of path t.table)) false

-- whether a condition holds
unfoldable pub guard_holds : TwoTables → Guard → Bool
guard_holds t g = elim g.need [
  | need.Some ↦ gives_any (of_source g.source t) g.path g.cases
  | need.None ↦ not (gives_any (of_source g.source t) g.path g.cases)
  | need.Two ↦ gives_two (of_source g.source t) g.path g.cases
  | need.First ↦ first_is_some (of_source g.source t) g.path g.cases
  | need.Whole ↦ is_none (first_cut g.path (of_source g.source t).table)
]

-- the number `point` at the place `at`, with the value `other`
abbrev pub reported : ℕ → ℕ → ℕ → Numbered
reported at other point = record { number = point; at = at; value = other }

-- the number g is among those that are looked up in
abbrev pub IsKnown : Option Known → TwoTables → Numbered → Type 0
IsKnown known t g = IsSomeAnd known (λ k. Counts (of_source k.source t) k.numbers g)

abbrev pub Knows : Row → TwoTables → Numbered → Type 0
Knows row t g = IsKnown row.known t g

-- the number g counts, and f is the first one that is the same, of those that are looked up in; the place of f is told
abbrev pub IsFound : Row → TwoTables → Numbered → Numbered → Type 0
IsFound row t g f = Counts t row.numbers g × IsFirst (Knows row t) f × (g.number ≡ f.number)

-- what is told of numbers that are looked up: that there is none of them, or by the first one
abbrev pub IsLookedUp : LookUp → Row → TwoTables → ℕ → ℕ → ℕ → Type 0
IsLookedUp lookup.Nowhere row t at other point =
    Counts t row.numbers (reported at other point) × ((g : Numbered) → Knows row t g → ¬ (g.number ≡ point))
IsLookedUp (lookup.Found w) row t at other point =
    (g : Numbered) × (f : Numbered) × IsFound row t g f × (is_reported w g f ≡ true)
    × (at ≡ g.at) × (other ≡ other_told w f) × (point ≡ g.value)

-- the first cut of the walks that find the structures of the path is at `at`; `other` is the length that is said there, and `point`
-- the end of what encloses it
abbrev pub IsCut : Path → List ℕ → ℕ → ℕ → ℕ → Type 0
IsCut path table at other point = first_cut path table ≡ Some (record { at = at; said = other; end = point })

-- this is reported, whatever the conditions
abbrev pub InForm : Form → Row → TwoTables → ℕ → ℕ → ℕ → Type 0
InForm form.Given row t at other point = Counts t row.numbers (reported at other point)
InForm (form.Repeated r) row t at other point = IsRepeated r (Counts t row.numbers) at other point
InForm (form.LookedUp l) row t at other point = IsLookedUp l row t at other point
InForm (form.Overlap r) row t at other point = IsOverlap r (Counts t row.numbers) at other point
InForm form.Cut row t at other point = IsCut row.numbers.path t.table at other point

-- the tables break the rule, with these numbers
pub record IsBroken (row : Row) (t : TwoTables) (at other point : ℕ) : Type 0 where
  pub about : list_all (guard_holds t) row.guards ≡ true
  pub broken : InForm row.form row t at other point

-- the conditions hold, and the number counts, whatever is reported
abbrev pub IsGivenByRow : Row → TwoTables → Numbered → Type 0
IsGivenByRow row t g = (list_all (guard_holds t) row.guards ≡ true) × Counts t row.numbers g

-- it counts in one of these
abbrev pub IsGivenByAny : List Row → TwoTables → Numbered → Type 0
IsGivenByAny rows t g = (row : Row) × Contains rows row × IsGivenByRow row t g

-- whether a rule of this form keeps numbers: those that may occur again or overlap, or those among which numbers are looked up
abbrev pub keeps_numbers : Form → Bool
keeps_numbers form.Given = false
keeps_numbers (form.Repeated r) = true
keeps_numbers (form.LookedUp l) = true
keeps_numbers (form.Overlap r) = true
keeps_numbers form.Cut = false

-- whether a rule keeps numbers: by its form, or to know at which places none counts
abbrev pub needs_memory : Row → Bool
needs_memory row = keeps_numbers row.form || has_except row.numbers

-- ---- the code's

abbrev pub BorGuard : Type 0
BorGuard = Need × Source × Bor Path × Bor (List BorCase)

abbrev pub guard_value : BorGuard → Guard
guard_value g = record { need = g.0; source = g.1; path = g.2.now; cases = map case_value g.3.now }

abbrev pub BorKnown : Type 0
BorKnown = Option (Bor (Source × BorNumbers))

abbrev pub known_value : BorKnown → Option Known
known_value = option_map (λ k. record { source = k.now.0; numbers = numbers_value k.now.1 })

abbrev pub BorRow : Type 0
BorRow = ℕ × Form × Bor (List BorGuard) × BorNumbers × BorKnown

abbrev pub row_value : BorRow → Row
row_value r =
    record {
      number = r.0;
      form = r.1;
      guards = map guard_value r.2.now;
      numbers = numbers_value r.3;
      known = known_value r.4;
    }

-- ---- the same as a constant has it

abbrev pub SaidGuard : Type 0
SaidGuard = Need × Source × SaidOne Path × Said SaidCase

abbrev pub guard_said : SaidGuard → Guard
guard_said g = record { need = g.0; source = g.1; path = g.2.now; cases = map case_said g.3.now }

abbrev pub SaidKnown : Type 0
SaidKnown = Option (SaidOne (Source × SaidNumbers))

abbrev pub known_said : SaidKnown → Option Known
known_said = option_map (λ k. record { source = k.now.0; numbers = numbers_said k.now.1 })

abbrev pub SaidRow : Type 0
SaidRow = ℕ × Form × Said SaidGuard × SaidNumbers × SaidKnown

abbrev pub row_said : SaidRow → Row
row_said r =
    record {
      number = r.0;
      form = r.1;
      guards = map guard_said r.2.now;
      numbers = numbers_said r.3;
      known = known_said r.4;
    }

-- the rows of a constant
abbrev pub rows_said : List SaidRow → List Row
rows_said rows = map row_said rows
