use Rattle.std.proofs.Common.{◌∙◌, map, sym}
use Rattle.acpi_rules.specs.Cases.{case_value}
use Rattle.acpi_rules.specs.Terms.{tables_value}
use Rattle.acpi_rules.proofs.ToldNumbers.{no_two, none_given_twice, two_given}
use Rattle.acpi_rules.proofs.row.gives_two.Goals as goal

pub returns-then-not-gives_any : goal.returns-then-not-gives_any
returns-then-not-gives_any c =
    no_two (tables_value c.args.tables.now) c.args.path.now (map case_value c.args.cases.now)
    (sym c.if-not-gives_any.ensures)

pub returns-then-is_none : goal.returns-then-is_none
returns-then-is_none c =
    none_given_twice (tables_value c.args.tables.now) c.args.path.now (map case_value c.args.cases.now)
    c.along-walked.result c.first_walked.new.walked c.first_walked.result c.along-walked.ensures
    c.first_walked.ensures c.if-is_none.ensures

pub returns : goal.returns
returns c =
    c.is_some.ensures
    ∙ two_given (tables_value c.args.tables.now) c.args.path.now (map case_value c.args.cases.now)
    c.along-walked.result c.first_walked.new.walked c.first_walked-2.new.walked c.first_walked.result
    c.first_walked-2.result c.along-walked.ensures c.first_walked.ensures c.if-is_none.ensures
    c.first_walked-2.ensures
