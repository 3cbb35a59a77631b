use Rattle.acpi_rules.specs.Terms.{tables_value}
use Rattle.acpi_rules.specs.Rows.{row_value}
use Rattle.acpi_lint.specs.RowGroups.{BreaksRow}
use Rattle.acpi_lint.proofs.RowFindings.{all_passed, no_row, one_row}
use Rattle.acpi_lint.proofs.row_findings.found_in.Goals as goal
use Rattle.acpi_lint.proofs.row_findings.found_in.Goals.{in-Some+in_ok-push, in_default}

pub loop-row-preserved : goal.loop-row-preserved
loop-row-preserved c =
    let t = tables_value c.args.tables.now in
    let rows = c.args.rows.now in
    elim c.match-branch-2.branch [
      | in-Some+in_ok-push w ↦
          rw (w.found-is, w.in_ok-push.ensures.items, c.row-item.is)
          (one_row t rows c.loop-row.row-index _ c.loop-row.found.items w.in-Some.place c.loop-row-test.true
          (rw (w.in-Some.is, c.row-item.is) at c.in_ok-place.ensures.found) c.loop-row.invariant)
      | in_default w ↦
          rw w.found-is
          (no_row t rows c.loop-row.row-index _ c.loop-row.found.items c.loop-row-test.true
          (rw (w.in_default.is, c.row-item.is) at c.in_ok-place.ensures.found) c.loop-row.invariant)
    ]

pub returns : goal.returns
returns c =
    all_passed (BreaksRow (tables_value c.args.tables.now)) row_value c.args.rows.now c.loop-row.row-index
    c.loop-row.found.items c.loop-row-test.false c.loop-row.invariant
