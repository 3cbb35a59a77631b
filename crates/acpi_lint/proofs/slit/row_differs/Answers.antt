use Rattle.std.proofs.Common.{arith}
use Rattle.acpi_lint.proofs.SlitFaults.{first_in_row, none_in_row}
use Rattle.acpi_lint.proofs.slit.row_differs.Goals as goal

pub returns-then-bytes-there : goal.returns-then-bytes-there
returns-then-bytes-there c =
    first_in_row c.args.bytes.now c.args.count c.args.i c.loop-j.j c.requires.rows (omega (arith, c.loop-j.auto.j))
    c.loop-j-test.true c.loop-j.invariant c.if-bytes-there.true

pub returns : goal.returns
returns c =
    none_in_row c.args.bytes.now c.args.count c.args.i c.loop-j.j c.requires.rows c.loop-j-test.false c.loop-j.invariant
