use Rattle.std.proofs.Common.{◌∙◌, map, sym}
use Rattle.acpi_rules.specs.Cases.{case_value}
use Rattle.acpi_rules.specs.Terms.{tables_value}
use Rattle.acpi_rules.proofs.ToldNumbers.{table_told, table_untold}
use Rattle.acpi_rules.proofs.passes.told_of_table.Goals as goal

pub returns-in-Some : goal.returns-in-Some
returns-in-Some c =
    table_told c.args.look_up (tables_value c.args.tables.now) (map case_value c.args.cases.now) c.args.except.now
    c.args.known.now c.in-Some.given c.told.result (sym c.in-Some.is ∙ c.given_by_table.ensures) c.told.ensures

pub returns-in-None : goal.returns-in-None
returns-in-None c =
    table_untold c.args.look_up (tables_value c.args.tables.now) (map case_value c.args.cases.now) c.args.except.now
    c.args.known.now (sym c.in-None.is ∙ c.given_by_table.ensures)
