use Rattle.std.proofs.Common.{map}
use Rattle.std.proofs.lemmas.List.{append-nil}
use Rattle.acpi_rules.specs.Cases.{case_value}
use Rattle.acpi_rules.specs.Given.{given_in_types}
use Rattle.acpi_rules.specs.Terms.{tables_value}
use Rattle.acpi_rules.proofs.GivenNumbers.{given_listed}
use Rattle.acpi_rules.proofs.TypedSites.{indexed_given}
use Rattle.acpi_rules.proofs.given.Given.along.Goals as goal

pub returns-in-Some : goal.returns-in-Some
returns-in-Some c =
    let t = tables_value c.args.tables.now in
    let cases = map case_value c.args.cases.now in
    let index = c.in-Some.index.now in
    rw (c.none-by_type.ensures, c.deref.ensures.value, append-nil (given_in_types t cases index.types.items))
    (indexed_given t c.args.path.now cases index c.in-Some.ensures.of c.in-Some.ensures.right)

pub returns-in-None : goal.returns-in-None
returns-in-None c =
    rw (c.none-by_type.ensures, c.along.ensures)
    (given_listed (tables_value c.args.tables.now) c.args.path.now (map case_value c.args.cases.now))
