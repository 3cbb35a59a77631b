use Rattle.acpi_rules.specs.Terms.{tables_value}
use Rattle.acpi_lint.specs.RowGroups.{group_value}
use Rattle.acpi_lint.proofs.RowFindings.{group_broken, has_table, on_err}
use Rattle.acpi_lint.proofs.row_findings.found_by.Goals as goal

pub returns-in-Some-clause-found : goal.returns-in-Some-clause-found
returns-in-Some-clause-found c =
    group_broken c.args.tables.now (group_value c.args.group.now) c.found_in.result (tables_value c.in-Some.both)
    (rw c.in-Some.is at c.tables_of.ensures) c.found_in.ensures

pub returns-in-Some-clause-memory : goal.returns-in-Some-clause-memory
returns-in-Some-clause-memory c =
    on_err c.found_in.result
    (has_table c.args.tables.now (group_value c.args.group.now) (tables_value c.in-Some.both) c.args.group.now.1
    (rw c.in-Some.is at c.tables_of.ensures))
