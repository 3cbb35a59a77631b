use Rattle.acpi_rules.specs.Terms.{tables_value}
use Rattle.acpi_rules.proofs.GivenByRows.{all_given_by, next_given, none_yet}
use Rattle.acpi_rules.proofs.row.given_by_any.Goals as goal

pub loop-row-init : goal.loop-row-init
loop-row-init c = rw c.new-all.ensures.items (none_yet (tables_value c.args.tables.now) c.args.rows.now)

pub loop-row-preserved : goal.loop-row-preserved
loop-row-preserved c =
    let all = next_given (tables_value c.args.tables.now) c.args.rows.now c.loop-row.row-index c.row-item.result
    c.loop-row.all.items c.in_ok-given.given.items c.loop-row-test.true c.row-item.is c.in_ok-given.ensures
    c.loop-row.invariant in
    rw (c.in_ok-extend_from_slice.ensures.items, c.deref.ensures.value) all

pub returns : goal.returns
returns c =
    all_given_by (tables_value c.args.tables.now) c.args.rows.now c.loop-row.row-index c.loop-row.all.items
    c.loop-row-test.false c.loop-row.invariant
