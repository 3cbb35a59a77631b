use Rattle.std.proofs.Common.{◌≡◌, length, map}
use Rattle.acpi_rules.specs.Cases.{case_value}
use Rattle.acpi_rules.specs.Given.{given_by_type}
use Rattle.acpi_rules.specs.Terms.{tables_value}
use Rattle.acpi_rules.proofs.given.first_listed.Given as goal

-- those before give none
abbrev pub invariant-loop-first : goal.invariant-loop-first
invariant-loop-first l =
    given_by_type (tables_value l.tables) (map case_value l.cases) l.kind l.left
    ≡ given_by_type (tables_value l.tables) (map case_value l.cases) l.kind l.fn.listed

abbrev pub decreases-loop-first : goal.decreases-loop-first
decreases-loop-first l = length l.left
