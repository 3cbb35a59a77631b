use Rattle.std.proofs.Common.{sym}
use Rattle.acpi_rules.specs.Rows.{row_value}
use Rattle.acpi_rules.specs.Terms.{tables_value}
use Rattle.acpi_rules.proofs.FormFindings.{looked_up_as, none_looked_up}
use Rattle.acpi_rules.proofs.row.first_looked_up.Goals as goal

pub returns-then-not-gives_any : goal.returns-then-not-gives_any
returns-then-not-gives_any c =
    none_looked_up c.args.look_up (row_value c.args.row.now) (tables_value c.args.tables.now)
    (sym c.if-not-gives_any.ensures)

pub returns : goal.returns
returns c =
    looked_up_as c.args.look_up (row_value c.args.row.now) (tables_value c.args.tables.now)
    c.in_ok-except.except.items c.in_ok-known.known.items c.first_told.result
    c.in_ok-known.ensures.order c.in_ok-except.ensures.places c.in_ok-known.ensures.all
    (rw (c.deref.ensures.value, c.deref-2.ensures.value) at c.first_told.ensures)
