use Rattle.std.proofs.Common.{get_or, true≢false, sym, ◌∙◌, ap, inl, inr, arith}
use borrow.Author.Count.{below_more}
use Rattle.std.proofs.lemmas.List.Elements.{Contains-get_or}
use Rattle.acpi_lint.specs.Slots.{HasSought}
use Rattle.acpi_lint.specs.declared.listed_slots.Slot.{Slot}
use Rattle.acpi_lint.proofs.ListedSlots.{no_slot}
use Rattle.acpi_lint.proofs.RisingLists.{at_or_behind, none_such}
use Rattle.acpi_lint.proofs.listed_slots.first_slot.Goals as goal

pub returns-then-has : goal.returns-then-has
returns-then-has c = λ m p are.
    let slots = c.args.slots.now in
    let i = c.loop-slot.slot-index in
    let within = c.loop-slot-test.true in
    let s : Slot = get_or slots i no_slot in
    let (slot, there) = are.listed s (Contains-get_or slots i no_slot within) in
    record {
      slot = slot;
      here = (there.tells c.args.sought).0 (c.has.ensures.0 c.if-has.true);
      before = λ k a less other sought.
          let (t, here, number, address) = are.all k a other in
          let holds : HasSought c.args.sought t.table =
          ((are.listed t here).1.tells c.args.sought).1 (rw address sought) in
          elim (at_or_behind (λ (x : Slot). x.number) (λ (x : Slot). HasSought c.args.sought x.table) slots i no_slot t
          are.rise within c.loop-slot.invariant here holds) [
            | inl same ↦ absurd (omega (arith, less, number, ap (λ (x : Slot). x.number) same))
            | inr more ↦ absurd (omega (arith, less, number, more))
          ];
    }

pub loop-slot-preserved : goal.loop-slot-preserved
loop-slot-preserved c =
    below_more (λ j. ¬ HasSought c.args.sought (get_or c.args.slots.now j no_slot).table) c.loop-slot.slot-index
    c.loop-slot.invariant (λ holds. true≢false (sym (c.has.ensures.1 holds) ∙ c.if-has.false))

pub returns : goal.returns
returns c = λ m p are k a other sought.
    let (t, here, number, address) = are.all k a other in
    none_such (λ (x : Slot). HasSought c.args.sought x.table) c.args.slots.now c.loop-slot.slot-index no_slot t
    c.loop-slot-test.false c.loop-slot.invariant here
    (((are.listed t here).1.tells c.args.sought).1 (rw address sought))
