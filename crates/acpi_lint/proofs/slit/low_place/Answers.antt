use Rattle.acpi_lint.proofs.SlitFaults.{first_low, no_low}
use Rattle.acpi_lint.proofs.slit.low_place.Goals as goal

pub returns-then-bytes-at-lt10 : goal.returns-then-bytes-at-lt10
returns-then-bytes-at-lt10 c =
    rw c.at.ensures
    (first_low c.args.bytes.now c.args.count c.loop-at.at c.requires c.loop-at.auto.at c.loop-at-test.true
    c.loop-at.invariant c.if-bytes-at-lt10.true)

pub returns : goal.returns
returns c =
    no_low c.args.bytes.now c.args.count c.loop-at.at c.requires c.loop-at-test.false c.loop-at.invariant
