use Rattle.std.proofs.Common.{rules, ◌<◌, [], ◌∷◌, sym, ◌∙◌, arith}
use Rattle.std.proofs.lemmas.List.{length-append, length-set}
use Rattle.acpi_base.specs.Root.{HasSlot}
use Rattle.acpi_lint.proofs.ListedSlots.{one_more, none_more, all_listed}
use Rattle.acpi_lint.proofs.listed_slots.slots_of.Goals as goal
use Rattle.acpi_lint.proofs.listed_slots.slots_of.Goals.{then-address-ne0+in_ok-push, else-address-ne0}

pub loop-slot-preserved : goal.loop-slot-preserved
loop-slot-preserved c =
    let root = c.args.root.now in
    let slot = c.loop-slot.slot in
    let slots = c.loop-slot.slots.items in
    elim c.if-address-ne0.branch [
      | then-address-ne0+in_ok-push w ↦
          let here : HasSlot root.bytes root.width slot c.slot-address.result =
          record {
            inside = (c.slots-slot-end.ensures.inside slot).0 c.loop-slot-test.true;
            address = sym c.slot-address.ensures;
            listed = search rules;
          } in (
            rw (w.slots-is, w.in_ok-push.ensures.items)
                (one_more _ slots c.loop-slot.invariant.0 w.from-number.ensures (rw w.table_at-table.ensures.there here)
                w.table_at-table.ensures.noted),
            rw (w.slots-is, w.in_ok-push.ensures.items)
                (rw (length-append slots (_ ∷ [])) (omega (arith, c.loop-slot.invariant.1))),
            rw w.last-is (length-set c.loop-slot.last.items _ _ ∙ c.loop-slot.invariant.2),
          )
      | else-address-ne0 w ↦ (
        rw w.slots-is
            (none_more slots c.loop-slot.invariant.0 (sym c.slot-address.ensures ∙ w.if-address-ne0.false)),
        rw w.slots-is (omega (arith, c.loop-slot.invariant.1)),
        rw w.last-is c.loop-slot.invariant.2,
      )
    ]

pub returns : goal.returns
returns c =
    all_listed c.loop-slot.slots.items c.loop-slot.invariant.0
    (λ k inside.
    let below : k < c.slots-slot-end.result = (c.slots-slot-end.ensures.inside k).1 inside in
    omega arith)

pub table_at-table-requires : goal.table_at-table-requires
table_at-table-requires c = λ s here. (c.loop-slot.invariant.0.listed s (rw c.deref.ensures.value at here)).1
