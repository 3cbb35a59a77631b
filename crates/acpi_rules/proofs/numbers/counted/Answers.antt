use Rattle.acpi_rules.specs.Numbers.{numbers_value}
use Rattle.acpi_rules.specs.Terms.{tables_value}
use Rattle.acpi_rules.proofs.FormFindings.{counted_as, each_ok}
use Rattle.acpi_rules.proofs.numbers.counted.Goals as goal

pub returns : goal.returns
returns c =
    each_ok c.all_given.result
    (λ all are. counted_as (tables_value c.args.tables.now) (numbers_value c.args.numbers.now)
    c.in_ok-except.except.items all.items c.in_ok-except.ensures.places
    (rw c.deref.ensures.value at are))
    c.all_given.ensures
