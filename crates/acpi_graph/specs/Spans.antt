-- Spans of numbers, and the first overlap of a list of them.
use Rattle.std.specs.Prelude.{◌≡◌, ◌≢◌, ℕ, ◌<◌, ◌≤◌, ◌⊎◌, List, AllPairs, Contains}
use Rattle.acpi_graph.specs.declared.span.Span.{Span}
use Rattle.acpi_graph.specs.declared.clash.Clash.{Clash}
use Rattle.acpi_graph.specs.declared.clash.Clash.TheVariants as clash

-- no two spans of the list have the same id
abbrev pub NamesDiffer : List Span → Type 0
NamesDiffer spans = AllPairs (λ a b. a.name ≢ b.name) spans

-- the number is in the span: at its start or above, and below its end
pub record HasNumber (span : Span) (number : ℕ) : Type 0 where
  pub from_start : span.start ≤ number
  pub below_end : number < span.end

-- the number is in two spans of the list
pub record LiesInTwo (spans : List Span) (number : ℕ) : Type 0 where
  pub one : Span
  pub other : Span
  pub one_listed : Contains spans one
  pub other_listed : Contains spans other
  pub two : one.name ≢ other.name
  pub one_holds : HasNumber one number
  pub other_holds : HasNumber other number

-- no number is in two spans of the list
abbrev pub IsClear : List Span → Type 0
IsClear spans = (number : ℕ) → ¬ LiesInTwo spans number

-- one span comes before the other by its start, or by its id if both start at one number
abbrev pub ComesBefore : Span → Span → Type 0
ComesBefore a b = (a.start < b.start) ⊎ ((a.start ≡ b.start) × (a.name < b.name))

-- first and second are the ids of the first two spans of the list that contain the number
pub record AreFirstTwo (spans : List Span) (number first second : ℕ) : Type 0 where
  pub earlier : Span
  pub later : Span
  pub earlier_listed : Contains spans earlier
  pub later_listed : Contains spans later
  pub earlier_name : earlier.name ≡ first
  pub later_name : later.name ≡ second
  pub two : first ≢ second
  pub earlier_holds : HasNumber earlier number
  pub later_holds : HasNumber later number
  pub in_order : ComesBefore earlier later
  pub others_after : (span : Span) → Contains spans span → HasNumber span number
      → span.name ≢ first → span.name ≢ second → ComesBefore later span

-- point is the lowest number that is in two spans of the list, and first and second are the ids of the first two
-- spans that contain it
pub record IsFirstClash (spans : List Span) (first second point : ℕ) : Type 0 where
  pub two : AreFirstTwo spans point first second
  pub least : (number : ℕ) → LiesInTwo spans number → point ≤ number

-- what holds for an overlap, if there is one
abbrev pub IfAt : Clash → (ℕ → ℕ → ℕ → Type 0) → Type 0
IfAt clash.None P = Unit {0}
IfAt (clash.At first second point) P = P first second point
