-- What a structure gives: a number, with a value, at a place.
use Rattle.std.specs.Prelude.{◌≡◌, ℕ, ◌+◌, Bool, List, [], ◌∷◌, length, Option, Some, None, nat_le, nat_lt, ◌&&◌, ◌||◌, ◌==◌, if◌then◌else◌}
use Rattle.std.specs.Option.{option_or}
use denote.Ref.{Bor}
use Rattle.acpi_rules.specs.Clauses.{all_hold, clauses_in, clauses_value}
use Rattle.acpi_rules.specs.Sites.{SiteValue}
use Rattle.acpi_rules.specs.Terms.{TwoTables, value_number}
use Rattle.acpi_rules.specs.declared.case.Kind.{Kind}
use Rattle.acpi_rules.specs.declared.clause.Clause.{Clause}
use Rattle.acpi_rules.specs.declared.clause.Clauses.{Clauses}
use Rattle.acpi_rules.specs.declared.numbered.Numbered.{Numbered}
use Rattle.acpi_rules.specs.declared.term.Value.{Value}

-- a case in which a structure gives a number: its kind, what holds of it, the offset in it that is the place, the value and the
-- number
pub record Case : Type 0 where
  pub kind : Kind
  pub all : List Clause
  pub at : ℕ
  pub value : Value
  pub number : Value

-- whether structures of this type may be of this kind
unfoldable pub has_type : Kind → ℕ → Bool
has_type k kind = nat_le k.first kind && nat_le kind k.last

-- whether a kind has this length; a greatest length of 65535 says that there is none
unfoldable pub has_length : Kind → ℕ → Bool
has_length k size = nat_le k.least size && (k.most == 65535 || nat_le size k.most)

-- whether a structure is of this kind: its type and its length
unfoldable pub is_kind : Kind → SiteValue → Bool
is_kind k s = has_type k s.kind && has_length k (length s.own.entry)

-- a number and a value at a place, if both are there
abbrev pub numbered_at : ℕ → Option ℕ → Option ℕ → Option Numbered
numbered_at at (Some value) (Some number) = Some (record { number = number; at = at; value = value })
numbered_at at _ _ = None

-- what a structure gives in a case: it is of that kind, has the byte that is the place, and all clauses hold
unfoldable pub in_case : TwoTables → SiteValue → Case → Option Numbered
in_case t s case =
    if is_kind case.kind s && nat_lt case.at (length s.own.entry) && all_hold t s case.all
    then numbered_at (s.own.offset + case.at) (value_number t s case.value) (value_number t s case.number)
    else None

-- the first that a function gives of these
abbrev pub first_some : {S T : Type 0} → (S → Option T) → List S → Option T
first_some f [] = None
first_some f (s ∷ left) = option_or (f s) (first_some f left)

-- what a structure gives: in the first case that holds
unfoldable pub gives : TwoTables → List Case → SiteValue → Option Numbered
gives t cases s = first_some (in_case t s) cases

-- a case as the code has it
abbrev pub BorCase : Type 0
BorCase = Kind × Clauses (Bor (List Clause)) × ℕ × Value × Value

abbrev pub case_value : BorCase → Case
case_value c = record { kind = c.0; all = clauses_value c.1; at = c.2; value = c.3; number = c.4 }

-- what a constant refers to, and a case as a constant has it
abbrev pub SaidOne : Type 0 → Type 0
SaidOne A = record { now : A }

abbrev pub Said : Type 0 → Type 0
Said A = SaidOne (List A)

abbrev pub SaidCase : Type 0
SaidCase = Kind × Clauses (Said Clause) × ℕ × Value × Value

abbrev pub case_said : SaidCase → Case
case_said c = record { kind = c.0; all = clauses_in (λ l. l.now) c.1; at = c.2; value = c.3; number = c.4 }

-- for structures of a type these cases give the same
abbrev pub GiveSame : ℕ → List Case → List Case → Type 0
GiveSame kind some all = (t : TwoTables) (s : SiteValue) → s.kind ≡ kind → gives t some s ≡ gives t all s
