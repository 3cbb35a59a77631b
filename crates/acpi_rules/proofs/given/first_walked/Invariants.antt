use Rattle.std.proofs.Common.{◌≡◌, map}
use Rattle.acpi_rules.specs.Cases.{case_value}
use Rattle.acpi_rules.specs.Given.{all_given}
use Rattle.acpi_rules.specs.Terms.{tables_value}
use Rattle.acpi_rules.proofs.given.first_walked.Given as goal

-- those before give none
abbrev pub invariant-loop-site : goal.invariant-loop-site
invariant-loop-site l =
    all_given (tables_value l.tables) (map case_value l.cases) l.walked
    ≡ all_given (tables_value l.tables) (map case_value l.cases) l.fn.walked
