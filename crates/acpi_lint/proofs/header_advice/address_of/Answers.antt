use Rattle.acpi_lint.proofs.OnceTables.{address_there, no_address}
use Rattle.acpi_lint.proofs.header_advice.address_of.Goals as goal

pub returns-then-slot-number : goal.returns-then-slot-number
returns-then-slot-number c = λ rise s listed same.
    address_there c.args.slots.now c.loop-slot.slot-index c.args.number s rise c.loop-slot-test.true
    c.if-slot-number.true c.loop-slot.invariant listed same

pub returns : goal.returns
returns c = λ rise s listed same.
    absurd (no_address c.args.slots.now c.loop-slot.slot-index c.args.number s c.loop-slot-test.false
    c.loop-slot.invariant listed same)
