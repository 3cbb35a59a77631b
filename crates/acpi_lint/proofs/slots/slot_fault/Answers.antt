use Rattle.std.proofs.Common.{Some, refl}
use Rattle.acpi_base.specs.Tables.{TableFault}
use Rattle.acpi_lint.proofs.FirstSlots.{place_of, least_slot}
use Rattle.acpi_rules.proofs.LeastPlaces.{least_as}
use Rattle.acpi_lint.proofs.slots.slot_fault.Goals as goal

pub returns-in_err-slot : goal.returns-in_err-slot
returns-in_err-slot c = λ m q whole.
    let none = rw c.in_err-slot.was at (rw c.deref.ensures.value at c.first_slot.ensures) m q.rsdp whole.slots in
    rw c.from_residual.ensures (λ at other point (slot, fault, third). none at other slot fault)

pub returns : goal.returns
returns c = λ m q whole.
    let first = rw c.in_ok-slot.was at (rw c.deref.ensures.value at c.first_slot.ensures) m q.rsdp whole.slots in
    let slot = c.in_ok-slot.slot in
    least_as (Some (place_of (λ a. a) (λ a. 0) slot))
    (λ at other point (a, slot, fault, second, third). (rw second slot, rw second fault, third))
    (λ at other point (slot, fault, third). (other, slot, fault, refl, third))
    (least_slot m q.rsdp (λ a. TableFault m a c.args.code) (λ a. a) (λ a. 0) (Some slot) first)
