use Rattle.std.proofs.Common.{◌≡◌, ℕ, get_or, Some, sym, ◌∙◌, ap, inl, inr, arith}
use Rattle.std.proofs.lemmas.List.Elements.{Contains-get_or}
use Rattle.std.proofs.lemmas.Option.{none-some, same_Some}
use Rattle.acpi_lint.specs.Slots.{second_place}
use Rattle.acpi_lint.specs.declared.listed_slots.Slot.{Slot}
use Rattle.acpi_rules.specs.declared.place.Place.{Place}
use Rattle.acpi_lint.proofs.ListedSlots.{no_slot}
use Rattle.acpi_lint.proofs.RisingLists.{at_or_behind, none_such}
use Rattle.acpi_rules.proofs.LeastPlaces.{not_after_itself}
use Rattle.acpi_lint.proofs.SecondTables.{second_from, second_to}
use Rattle.acpi_lint.proofs.slot_advice.second_table.Goals as goal

abbrev numbers : ℕ → ℕ → ℕ → Place
numbers at other point = record { at = at; other = other; point = point }

pub returns-in-Some : goal.returns-in-Some
returns-in-Some c = λ m p whole.
    let firsts = c.args.tables.now.firsts in
    let slots = c.args.tables.now.slots.items in
    let i = c.loop-slot.slot-index in
    let within = rw c.deref-slot-items.ensures.value at c.loop-slot-test.true in
    let place = c.in-Some.place in
    let s : Slot = get_or slots i no_slot in
    let (slot, there) = whole.slots.listed s (Contains-get_or slots i no_slot within) in
    let is : second_place firsts s ≡ Some place =
    rw c.deref-slot-items.ensures.value at (sym c.second_place.ensures ∙ c.in-Some.is) in
    let (here, number) = second_from firsts s place whole.firsts slot there is in
    record {
      here = here;
      least = λ at other point (kind, second).
          let (t, listed, same, address) = whole.slots.all at point second.here.0 in
          let also = second_to firsts t whole.firsts same address (whole.slots.listed t listed).1 (kind, second) in
          elim (at_or_behind (λ (x : Slot). x.number)
          (λ (x : Slot). second_place firsts x ≡ Some (numbers at other point)) slots i no_slot t
          whole.slots.rise within
          (λ j below some. none-some (numbers at other point) (sym (c.loop-slot.invariant j below) ∙ some)) listed
          also) [
            | inl one ↦
                let found : numbers at other point ≡ place =
                same_Some _ _ (sym also ∙ ap (second_place firsts) one ∙ is) in
                not_after_itself place at other point
                (ap (λ (x : Place). x.at) found, ap (λ (x : Place). x.other) found, ap (λ (x : Place). x.point) found)
            | inr more ↦ inl (omega (arith, number, same, more))
          ];
    }

pub returns : goal.returns
returns c = λ m p whole at other point (kind, second).
    let firsts = c.args.tables.now.firsts in
    let (t, listed, same, address) = whole.slots.all at point second.here.0 in
    none_such (λ (x : Slot). second_place firsts x ≡ Some (numbers at other point)) c.args.tables.now.slots.items
    c.loop-slot.slot-index no_slot t (rw c.deref-slot-items.ensures.value at c.loop-slot-test.false)
    (λ j below some. none-some (numbers at other point) (sym (c.loop-slot.invariant j below) ∙ some)) listed
    (second_to firsts t whole.firsts same address (whole.slots.listed t listed).1 (kind, second))
