-- Comparisons of numbers: when they hold.
use Rattle.std.specs.Prelude.{ℕ, Bool, false, not, List, [], ◌∷◌, Option, Some, nat_le, nat_lt, ◌==◌}
use Rattle.std.specs.List.{list_all}
use Rattle.acpi_rules.specs.Sites.{SiteValue}
use Rattle.acpi_rules.specs.Terms.{TwoTables, value_number}
use Rattle.acpi_rules.specs.declared.clause.Test.{Test}
use Rattle.acpi_rules.specs.declared.clause.Test.TheVariants as test
use Rattle.acpi_rules.specs.declared.clause.Clause.{Clause}
use Rattle.acpi_rules.specs.declared.clause.Clauses.{Clauses}
use Rattle.acpi_rules.specs.declared.clause.Clauses.TheVariants as held
use denote.Ref.{Bor}

-- whether two numbers pass the test
unfoldable pub passes : Test → ℕ → ℕ → Bool
passes test.Is m n = m == n
passes test.IsNot m n = not (m == n)
passes test.Below m n = nat_lt m n
passes test.UpTo m n = nat_le m n

-- whether both numbers are there and pass the test
abbrev pub pass : Test → Option ℕ → Option ℕ → Bool
pass t (Some m) (Some n) = passes t m n
pass t _ _ = false

-- whether both values of a clause are there, for a structure, and pass its test
unfoldable pub holds : TwoTables → SiteValue → Clause → Bool
holds t s c = pass c.test (value_number t s c.left) (value_number t s c.right)

-- whether all of these hold
unfoldable pub all_hold : TwoTables → SiteValue → List Clause → Bool
all_hold t s clauses = list_all (holds t s) clauses

-- the clauses of a case, as the code has them and as a constant has them
abbrev pub clauses_in : {L : Type 0} → (L → List Clause) → Clauses L → List Clause
clauses_in all held.None = []
clauses_in all (held.One c) = c ∷ []
clauses_in all (held.All l) = all l

abbrev pub clauses_value : Clauses (Bor (List Clause)) → List Clause
clauses_value c = clauses_in (λ l. l.now) c
