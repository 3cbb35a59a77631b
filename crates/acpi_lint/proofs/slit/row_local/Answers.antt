use Rattle.acpi_lint.proofs.RemoteCells.{first_local, none_local}
use Rattle.acpi_lint.proofs.slit.row_local.Goals as goal

pub returns-then-bytes-there-eq-LOCAL : goal.returns-then-bytes-there-eq-LOCAL
returns-then-bytes-there-eq-LOCAL c =
    first_local c.args.bytes.now c.args.count c.args.i c.loop-j.j c.requires.rows c.requires.row c.loop-j-test.true
    c.if-j-i.true
    c.loop-j.invariant c.if-bytes-there-eq-LOCAL.true

pub returns : goal.returns
returns c =
    none_local c.args.bytes.now c.args.count c.args.i c.loop-j.j c.requires.rows c.loop-j-test.false c.loop-j.invariant
