use Rattle.std.proofs.Common.{◌+◌, ◌*◌, ℕ, map, refl, sym, ap, ◌∙◌, subst, arith}
use Rattle.std.specs.Prelude.{IsNone}
use Rattle.std.proofs.lemmas.List.{map-append}
use Rattle.acpi_base.specs.Number.{field}
use Rattle.acpi_base.specs.Tables.{IsTable}
use Rattle.acpi_write.specs.Kinds.{table_of}
use Rattle.acpi_write.specs.SetValues.{IsCompleteAt}
use Rattle.acpi_write.proofs.OldSets.Listing.{begins, skips, takes, completed}
use Rattle.acpi_write.proofs.table_reading.listed_tables.Goals.{in-Some+in_ok-push, in_default}
use Rattle.acpi_write.proofs.table_reading.listed_tables.Goals as goal

pub loop-slot-init : goal.loop-slot-init
loop-slot-init c =
    let set = c.args.set.now in
    begins set.image.now set.root.bytes set.root.width _ (map table_of c.new-found.result.items)
    (omega (arith, c.slots-slot-end.ensures.slots)) (ap (map table_of) c.new-found.ensures.items)

pub loop-slot-preserved : goal.loop-slot-preserved
loop-slot-preserved c =
    let m = c.args.set.now.image.now in
    let root = c.args.set.now.root in
    let n = c.slots-slot-end.ensures.slots in
    let below = c.loop-slot-test.true in
    let so_far = c.loop-slot.invariant in
    elim c.match-table.branch [
      | in-Some+in_ok-push w ↦
          let here = w.in-Some.ensures.some in
          let whole = w.in-Some.listed.table in
          let at : IsCompleteAt m (field root.bytes (36 + root.width * c.loop-slot.slot) root.width) whole =
          (here.header, subst (λ (a : ℕ). IsTable m a here.header whole) (sym here.slot.address) here.table) in
          let pushed = ap (map table_of) w.in_ok-push.ensures.items ∙ map-append table_of c.loop-slot.found.items _ in
          rw w.found-is (takes m root.bytes root.width c.loop-slot.slot _ (map table_of c.loop-slot.found.items)
          (map table_of w.push.new.self.items) whole (omega (arith, n, below))
          (λ nil. here.slot.listed (sym here.slot.address ∙ nil)) at pushed so_far)
      | in_default w ↦
          rw w.found-is (skips m root.bytes root.width c.loop-slot.slot _ (map table_of c.loop-slot.found.items)
          (omega (arith, n, below)) (c.table.ensures.none (subst IsNone (sym w.in_default.is) refl)) so_far)
    ]

pub returns : goal.returns
returns c =
    let set = c.args.set.now in
    let n = c.slots-slot-end.ensures.slots in
    let past = c.loop-slot-test.false in
    completed set.image.now set.root.bytes set.root.width c.loop-slot.slot _ (map table_of c.loop-slot.found.items)
    (omega (arith, n, past)) c.loop-slot.invariant
