use Rattle.acpi_rules.specs.Numbers.{numbers_value}
use Rattle.acpi_rules.specs.Terms.{tables_value}
use Rattle.acpi_rules.proofs.FormFindings.{given_as}
use Rattle.acpi_rules.proofs.row.first_given.Goals as goal

pub returns-clause-found : goal.returns-clause-found
returns-clause-found c =
    given_as (tables_value c.args.tables.now) (numbers_value c.args.numbers.now) c.in_ok-except.except.items
    c.first_told.result c.in_ok-except.ensures.places (rw c.deref.ensures.value at c.first_told.ensures)
