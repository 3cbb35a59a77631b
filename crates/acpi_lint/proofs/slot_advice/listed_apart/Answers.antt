use Rattle.std.proofs.Common.{rules, Some, refl, inl, inr}
use Rattle.acpi_lint.specs.Slots.{IsApart}
use Rattle.acpi_lint.proofs.FirstSlots.{place_of, least_slot}
use Rattle.acpi_rules.proofs.LeastPlaces.{least_as}
use Rattle.acpi_lint.proofs.slot_advice.listed_apart.Goals as goal

pub returns-in_err-slot : goal.returns-in_err-slot
returns-in_err-slot c = λ m p whole.
    let none = rw c.in_err-slot.was at (rw c.deref.ensures.value at c.first_slot.ensures) m p whole.slots in
    rw c.from_residual.ensures (λ at other point (lists, unused). none at point (search rules) (search rules))

pub returns : goal.returns
returns c = λ m p whole.
    let first = rw c.in_ok-slot.was at (rw c.deref.ensures.value at c.first_slot.ensures) m p whole.slots in
    let slot = c.in_ok-slot.slot in
    least_as (Some (place_of (λ a. 0) (λ a. a) slot))
    (λ at other point (a, slot, apart, second, third). rw third (elim apart [
      | inl dsdt ↦ (inl (slot, dsdt), second)
      | inr facs ↦ (inr (slot, facs), second)
    ]))
    (λ at other point (lists, second). elim lists [
      | inl (slot, dsdt) ↦ (point, slot, inl dsdt, second, refl)
      | inr (slot, facs) ↦ (point, slot, inr facs, second, refl)
    ])
    (least_slot m p (IsApart m) (λ a. 0) (λ a. a) (Some slot) first)
