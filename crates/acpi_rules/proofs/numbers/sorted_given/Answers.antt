use Rattle.std.proofs.Common.{map}
use Rattle.acpi_rules.specs.Cases.{case_value}
use Rattle.acpi_rules.specs.Terms.{tables_value}
use Rattle.acpi_rules.proofs.FormFindings.{sorted_given}
use Rattle.acpi_rules.proofs.numbers.sorted_given.Goals as goal

pub returns-clause-all : goal.returns-clause-all
returns-clause-all c =
    sorted_given (tables_value c.args.tables.now) c.args.path.now (map case_value c.args.cases.now)
    c.in_ok-given.given.items
    c.sort_numbers.new.given.items c.in_ok-given.ensures c.sort_numbers.ensures.permutation
