use Rattle.std.proofs.Common.{◌≡◌, ◌++◌, length, map}
use Rattle.acpi_rules.specs.Cases.{case_value}
use Rattle.acpi_rules.specs.Given.{all_given}
use Rattle.acpi_rules.specs.Sites.{sites_of}
use Rattle.acpi_rules.specs.Terms.{tables_value}
use Rattle.acpi_rules.proofs.numbers.numbers_in_order.Given as goal

-- those so far, and those that are left
abbrev pub invariant-loop-given : goal.invariant-loop-given
invariant-loop-given l =
    l.all.items ++ all_given (tables_value l.tables) (map case_value l.cases) l.walked
    ≡ all_given (tables_value l.tables) (map case_value l.cases) (sites_of l.path (tables_value l.tables).table)

abbrev pub decreases-loop-given : goal.decreases-loop-given
decreases-loop-given l = length (all_given (tables_value l.tables) (map case_value l.cases) l.walked)
