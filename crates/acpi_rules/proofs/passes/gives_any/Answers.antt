use Rattle.std.proofs.Common.{◌∙◌, map}
use Rattle.acpi_rules.specs.Cases.{case_value}
use Rattle.acpi_rules.specs.Terms.{tables_value}
use Rattle.acpi_rules.specs.declared.series.Path.TheVariants.{Table}
use Rattle.acpi_rules.proofs.ToldNumbers.{any_given, first_alone, first_call, table_given}
use Rattle.acpi_rules.proofs.passes.gives_any.Goals as goal

pub returns-in-Table : goal.returns-in-Table
returns-in-Table c =
    let t = tables_value c.args.tables.now in
    let cases = map case_value c.args.cases.now in
    let found = c.given_by_table.result in
    rw c.in-Table.is
    (c.is_some.ensures
    ∙ any_given t Table cases _ (table_given t cases found c.given_by_table.ensures) found (first_alone found))

pub returns : goal.returns
returns c =
    c.is_some-2.ensures
    ∙ any_given (tables_value c.args.tables.now) c.args.path.now (map case_value c.args.cases.now) c.along.result
    c.along.ensures c.next.result (first_call c.along.result c.next.new.self c.next.result c.next.ensures.steps)
