use Rattle.std.proofs.Common.{◌≡◌, ℕ, refl, sym, ◌∙◌, inl, inr, subst, arith}
use Rattle.acpi_base.specs.Root.{HasSlot}
use Rattle.acpi_check.specs.FirstBelow.{AreFirstBelow}
use Rattle.acpi_check.proofs.SetFaults.FirstFaults.{first_table_fault}
use Rattle.acpi_check.proofs.SetFaults.Slots.{none_below, firsts_skip, firsts_repeat, firsts_more, read_more, valid_and_first}
use Rattle.acpi_check.proofs.tables.check_tables.Goals as goal
use Rattle.acpi_check.proofs.tables.check_tables.Goals.{then-address-eq0-via-then-address-eq0, then-address-eq0-via-else-address-eq0+then-has}

pub loop-slot-init : goal.loop-slot-init
loop-slot-init c = (
  none_below c.args.image.now c.args.root.now c.new-firsts.result c.new-firsts.ensures,
  λ a kept. inl (c.new-read.ensures a kept),
)

pub loop-slot-preserved-then-address-eq0 : goal.loop-slot-preserved-then-address-eq0
loop-slot-preserved-then-address-eq0 c =
    let image = c.args.image.now in
    let root = c.args.root.now in
    let firsts = c.loop-slot.firsts in
    let (below, read) = c.loop-slot.invariant in
    elim c.then-address-eq0.branch [
      | then-address-eq0-via-then-address-eq0 w ↦ (
        firsts_skip image root c.loop-slot.slot firsts
            (λ a slot. slot.listed (sym slot.address ∙ sym c.slot-address.ensures ∙ w.if-address-eq0.true)) below,
        λ a kept. read_more root (read a kept),
      )
      | then-address-eq0-via-else-address-eq0+then-has w ↦
          let slot : HasSlot root.bytes root.width c.loop-slot.slot c.slot-address.result =
          record {
            inside = (c.slots-slot-end.ensures.inside c.loop-slot.slot).0 c.loop-slot-test.true;
            address = sym c.slot-address.ensures;
            listed = w.if-address-eq0.false;
          } in (
            firsts_repeat image root c.loop-slot.slot firsts
                (read c.slot-address.result (w.has.ensures w.if-has.true)) slot below,
            λ a kept. read_more root (read a kept),
          )
    ]

pub loop-slot-preserved : goal.loop-slot-preserved
loop-slot-preserved c =
    let table = c.in-Ok.ensures.value in
    let slot : HasSlot c.args.root.now.bytes c.args.root.now.width c.loop-slot.slot c.slot-address.result =
    record {
      inside = (c.slots-slot-end.ensures.inside c.loop-slot.slot).0 c.loop-slot-test.true;
      address = sym c.slot-address.ensures;
      listed = c.if-address-eq0.false;
    } in (
      firsts_more c.args.image.now c.args.root.now c.loop-slot.slot c.slot-address.result table.0
          (record { address = c.slot-address.result; table = c.in-Ok.table }) c.loop-slot.firsts c.add.new.self slot
          (c.in-Ok.ensures.ok.0 refl) table.1 c.add.ensures.tables c.loop-slot.invariant.0,
      λ a kept. elim (c.add-in-loop-slot.ensures a kept) [
        | inl this ↦ inr (c.loop-slot.slot, omega arith, rw this slot)
        | inr earlier ↦ read_more c.args.root.now (c.loop-slot.invariant.1 a earlier)
      ],
    )

pub returns-in-Err : goal.returns-in-Err
returns-in-Err c = λ q clean is.
    let slot : HasSlot c.args.root.now.bytes c.args.root.now.width c.loop-slot.slot c.slot-address.result =
    record {
      inside = (c.slots-slot-end.ensures.inside c.loop-slot.slot).0 c.loop-slot-test.true;
      address = sym c.slot-address.ensures;
      listed = c.if-address-eq0.false;
    } in
    let read = c.in-Err.ensures in
    rw c.listed_fault.ensures (
      first_table_fault c.args.image.now q c.args.root.now c.in-Err.code c.loop-slot.slot c.slot-address.result clean is
          slot read.stage read.fault read.least c.loop-slot.invariant.0.valid,
      read.stage,
    )

pub returns : goal.returns
returns c = λ q clean is.
    let all : c.loop-slot.slot ≡ c.slots-slot-end.result = omega arith in
    valid_and_first c.args.image.now q.rsdp c.slots-slot-end.result c.args.root.now c.loop-slot.firsts is
    (λ k. (c.slots-slot-end.ensures.inside k).1)
    (subst (λ (k : ℕ). AreFirstBelow c.args.image.now c.args.root.now k c.loop-slot.firsts) all c.loop-slot.invariant.0)
