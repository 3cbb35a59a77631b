use Rattle.std.proofs.Common.{◌≡◌, get_or, Some, None, inl, inr, arith}
use Rattle.std.proofs.lemmas.Bool.{cases_lt}
use Rattle.acpi_lint.proofs.HeaderTexts.{first_text, no_text}
use Rattle.acpi_lint.proofs.ListedSlots.{no_slot}
use Rattle.acpi_lint.proofs.header_advice.header_text.Goals as goal

pub returns-in-Some : goal.returns-in-Some
returns-in-Some c = λ m p whole.
    let slots = c.args.tables.now.slots.items in
    let i = c.loop-slot.slot-index in
    let within = rw c.deref-slot-items.ensures.value at c.loop-slot-test.true in
    let found : (get_or slots i no_slot).table.odd_text ≡ Some c.in-Some.offset =
    rw c.deref-slot-items.ensures.value at c.in-Some.is in
    rw (c.deref-slot-items.ensures.value, c.from.ensures)
    (first_text slots i c.in-Some.offset whole.slots within found c.loop-slot.invariant)

pub loop-slot-preserved : goal.loop-slot-preserved
loop-slot-preserved c = λ j below.
    let slots = c.args.tables.now.slots.items in
    let i = c.loop-slot.slot-index in
    let none : (get_or slots i no_slot).table.odd_text ≡ None =
    rw c.deref-slot-items.ensures.value at c.in_default.is in
    elim (cases_lt j i) [
      | inl less ↦ c.loop-slot.invariant j less
      | inr most ↦
          let same : j ≡ i = omega (arith, below, most) in
          rw same none
    ]

pub returns : goal.returns
returns c = λ m p whole.
    no_text c.args.tables.now.slots.items c.loop-slot.slot-index whole.slots
    (rw c.deref-slot-items.ensures.value at c.loop-slot-test.false)
    (rw c.deref-slot-items.ensures.value at c.loop-slot.auto.slot-index-end) c.loop-slot.invariant
