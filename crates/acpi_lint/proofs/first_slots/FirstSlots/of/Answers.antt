use Rattle.acpi_lint.proofs.OfTables.{are_first_slots}
use Rattle.acpi_lint.proofs.first_slots.FirstSlots.of.Goals as goal

pub returns : goal.returns
returns c = λ m p are.
    are_first_slots _ (c.first_slot.ensures m p are) (c.first_slot-2.ensures m p are) (c.first_slot-3.ensures m p are)
    (c.first_slot-4.ensures m p are) (c.first_slot-5.ensures m p are) (c.first_slot-6.ensures m p are)
    (c.first_slot-7.ensures m p are) (c.first_slot-8.ensures m p are) (c.first_slot-9.ensures m p are)
    (c.first_slot-10.ensures m p are) (c.first_slot-11.ensures m p are) (c.first_slot-12.ensures m p are)
