use Rattle.acpi_lint.proofs.SlitFaults.{first_diagonal, no_diagonal}
use Rattle.acpi_lint.proofs.slit.diagonal_place.Goals as goal

pub returns-then-bytes-at-ne10 : goal.returns-then-bytes-at-ne10
returns-then-bytes-at-ne10 c =
    rw c.at.ensures
    (first_diagonal c.args.bytes.now c.args.count c.loop-i.i c.requires c.loop-i-test.true c.loop-i.invariant
    c.if-bytes-at-ne10.true)

pub returns : goal.returns
returns c =
    no_diagonal c.args.bytes.now c.args.count c.loop-i.i c.requires c.loop-i-test.false c.loop-i.invariant
