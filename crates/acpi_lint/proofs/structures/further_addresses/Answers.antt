use Rattle.std.proofs.Common.{◌∙◌, ℕ, Global, Vec, ap, inl, inr, map, rules, subst, arith}
use Rattle.std.specs.Prelude.{Contains}
use Rattle.acpi_base.proofs.Elements.{element_of_map, no_element}
use Rattle.acpi_check.proofs.EntryPasses.Kept.{map_has}
use Rattle.acpi_lint.specs.Slots.{listed_address}
use Rattle.acpi_lint.proofs.CollectedNumbers.{each_ok}
use Rattle.acpi_lint.proofs.StructureRanges.{slot_passed}
use Rattle.acpi_lint.proofs.structures.further_addresses.Goals as goal
use Rattle.acpi_lint.proofs.structures.further_addresses.Goals.{then-not-begins_at+in_ok-push, else-not-begins_at}

pub loop-slot-init : goal.loop-slot-init
loop-slot-init c = λ a. (
  λ listed. absurd (no_element a (rw c.new-addresses.ensures.items at listed)),
  λ ((s, (k, below, is), at), none). absurd (omega (arith, below)),
)

pub loop-slot-preserved : goal.loop-slot-preserved
loop-slot-preserved c =
    slot_passed _ c.args.slots.now c.args.given.now c.loop-slot.slot-index c.loop-slot.addresses.items
    c.if-not-begins_at.addresses.items c.begins_at.ensures c.loop-slot-test.true c.loop-slot.invariant
    (elim c.if-not-begins_at.branch [
      | then-not-begins_at+in_ok-push w ↦
          inl (search rules, ap (λ (v : Vec ℕ Global). v.items) w.addresses-is ∙ w.in_ok-push.ensures.items)
      | else-not-begins_at w ↦ inr (search rules, ap (λ (v : Vec ℕ Global). v.items) w.addresses-is)
    ])

pub returns-clause-same : goal.returns-clause-same
returns-clause-same c =
    let slots = c.args.slots.now in
    each_ok c.sorted_unique.result
    (λ found same a. (
      λ listed.
          let ((s, (k, below, is), at), none) = (c.loop-slot.invariant a).0 ((same a).0 listed) in
          let inside = map_has listed_address slots s (k, omega (arith, below, c.loop-slot.auto.slot-index-end), is) in
          (subst (Contains (map listed_address slots)) at inside, none),
      λ (listed, none).
          let (s, (k, within, is), at) = element_of_map listed_address slots a listed in
          (same a).1 ((c.loop-slot.invariant a).1
          ((s, (k, omega (arith, within, c.loop-slot-test.false), is), at), none)),
    ))
    c.sorted_unique.ensures.same
