use Rattle.acpi_lint.specs.RowFindings.{AreBroken}
use Rattle.acpi_lint.specs.RowGroups.{group_value}
use Rattle.acpi_lint.proofs.RowFindings.{all_passed, found_has_table, next_found, none_more, on_err}
use Rattle.acpi_lint.proofs.row_findings.found_by_all.Goals as goal
use Rattle.acpi_lint.proofs.row_findings.found_by_all.Goals.{then-not-is_empty+in_ok-extend_from_slice, else-not-is_empty}

pub returns-in_err-extend_from_slice-clause-memory : goal.returns-in_err-extend_from_slice-clause-memory
returns-in_err-extend_from_slice-clause-memory c =
    on_err c.from_residual-in_err-extend_from_slice.result
    (found_has_table c.args.tables.now _ c.in_ok-more.more.items c.in_ok-more.ensures.found
    (rw c.as_slice-more.ensures.value at c.if-not-is_empty.ensures))

pub loop-group-preserved : goal.loop-group-preserved
loop-group-preserved c =
    let all = next_found (AreBroken c.args.tables.now) group_value c.args.groups.now c.loop-group.group-index _
    c.loop-group.found.items c.in_ok-more.more.items c.loop-group-test.true c.in_ok-more.ensures.found
    c.loop-group.invariant in
    elim c.if-not-is_empty.branch [
      | then-not-is_empty+in_ok-extend_from_slice w ↦
          rw (w.found-is, w.in_ok-extend_from_slice.ensures.items, c.as_slice-more.ensures.value) all
      | else-not-is_empty w ↦
          let none = rw c.as_slice-more.ensures.value at w.if-not-is_empty.ensures in
          rw w.found-is (rw (none_more c.loop-group.found.items c.in_ok-more.more.items none) at all)
    ]

pub returns-clause-found : goal.returns-clause-found
returns-clause-found c =
    all_passed (AreBroken c.args.tables.now) group_value c.args.groups.now c.loop-group.group-index
    c.loop-group.found.items c.loop-group-test.false c.loop-group.invariant
