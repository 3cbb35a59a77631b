use Rattle.std.proofs.Common.{map, sym}
use Rattle.acpi_rules.specs.Cases.{case_value}
use Rattle.acpi_rules.specs.Terms.{tables_value}
use Rattle.acpi_rules.proofs.ToldNumbers.{first_is, first_is_none, no_first}
use Rattle.acpi_rules.proofs.row.is_first_some.Goals as goal

pub returns-then-not-gives_any : goal.returns-then-not-gives_any
returns-then-not-gives_any c =
    no_first (tables_value c.args.tables.now) c.args.path.now (map case_value c.args.cases.now)
    (sym c.if-not-gives_any.ensures)

pub returns-in-Some : goal.returns-in-Some
returns-in-Some c =
    first_is (tables_value c.args.tables.now) c.args.path.now (map case_value c.args.cases.now) c.along-walked.result
    c.first_walked.new.walked c.in-Some.first c.along-walked.ensures c.in-Some.ensures

pub returns-in-None : goal.returns-in-None
returns-in-None c =
    first_is_none (tables_value c.args.tables.now) c.args.path.now (map case_value c.args.cases.now)
    c.along-walked.result c.along-walked.ensures c.in-None.ensures.0
