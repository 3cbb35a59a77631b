use Rattle.acpi_rules.specs.Numbers.{numbers_value}
use Rattle.acpi_rules.specs.Terms.{tables_value}
use Rattle.acpi_rules.proofs.FormFindings.{known_of}
use Rattle.acpi_rules.proofs.row.sorted_known.Goals as goal

pub returns-clause-all : goal.returns-clause-all
returns-clause-all c =
    rw c.in-Some.is
    (known_of (record { source = c.in-Some.known.now.0; numbers = numbers_value c.in-Some.known.now.1 })
    (tables_value c.args.tables.now) (tables_value c.of.result) c.in_ok-all.all.items
    c.sort_numbers.new.given.items c.of.ensures c.in_ok-all.ensures c.sort_numbers.ensures.permutation)
