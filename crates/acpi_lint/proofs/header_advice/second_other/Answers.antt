use Rattle.acpi_lint.proofs.OnceTables.{first_second, no_second}
use Rattle.acpi_lint.proofs.header_advice.second_other.Goals as goal

pub returns-in_default : goal.returns-in_default
returns-in_default c = λ m p whole.
    let given = rw c.deref.ensures.value at c.in_ok-given.ensures in
    no_second c.args.tables.now.slots.items whole.slots (rw (given, c.in_default.is) at c.in_ok-place.ensures.found)

pub returns : goal.returns
returns c = λ m p whole.
    let given = rw c.deref.ensures.value at c.in_ok-given.ensures in
    first_second c.args.tables.now.slots.items c.in-Some.place c.address_of.result whole.slots
    (rw (given, c.in-Some.is) at c.in_ok-place.ensures.found)
    (λ s listed number. (rw c.deref-2.ensures.value at c.address_of.ensures) whole.slots.rise s listed number)
