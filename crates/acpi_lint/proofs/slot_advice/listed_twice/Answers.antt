use Rattle.std.proofs.Common.{map}
use Rattle.acpi_lint.specs.Slots.{numbered_slot}
use Rattle.acpi_lint.proofs.CollectedNumbers.{found_twice}
use Rattle.acpi_lint.proofs.ListedSlots.{at_numbers, are_numbered}
use Rattle.acpi_lint.proofs.slot_advice.listed_twice.Goals as goal

pub first_later-requires : goal.first_later-requires
first_later-requires c =
    rw (c.in_ok-given.ensures, c.deref.ensures.value) (at_numbers c.args.tables.now.slots.items)

pub returns : goal.returns
returns c = λ m p whole.
    let slots = c.args.tables.now.slots.items in
    let given = rw c.deref.ensures.value at c.in_ok-given.ensures in
    found_twice (map numbered_slot slots) c.first_later.result (are_numbered slots whole.slots)
    (rw given at c.first_later.ensures)
