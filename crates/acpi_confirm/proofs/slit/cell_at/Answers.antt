use Rattle.std.proofs.Common.{rules, arith}
use Rattle.acpi_confirm.proofs.Cells.{none_behind, cell_there}
use Rattle.acpi_confirm.proofs.slit.cell_at.Goals as goal

pub returns : goal.returns
returns c = rw c.in_ok-place.ensures.1
    (cell_there c.args.slit.now c.args.at c.u64_at-count.result (search rules) c.in_ok-place.ensures.0 (omega arith)
    c.u64_at-count.ensures)

pub returns-then-at-slit : goal.returns-then-at-slit
returns-then-at-slit c = none_behind c.args.slit.now c.args.at c.if-at-slit.true
