use Rattle.std.proofs.Common.{◌≡◌, drop, map}
use Rattle.acpi_rules.specs.Cases.{case_value, in_case, first_some}
use Rattle.acpi_rules.specs.Sites.{site_value}
use Rattle.acpi_rules.specs.Terms.{tables_value}
use Rattle.acpi_rules.proofs.case.given.Given as goal

-- the structure gives nothing in the cases before
abbrev pub invariant-loop-case : goal.invariant-loop-case
invariant-loop-case l =
    first_some (in_case (tables_value l.tables) (site_value l.site)) (map case_value (drop l.case-index l.cases))
    ≡ first_some (in_case (tables_value l.tables) (site_value l.site)) (map case_value l.cases)
