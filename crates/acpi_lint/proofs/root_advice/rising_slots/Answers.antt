use Rattle.std.proofs.Common.{ℕ, ◌+◌, ◌*◌, refl, arith}
use Rattle.std.proofs.lemmas.List.FromFn.{map-range_with_len_more}
use Rattle.acpi_base.specs.Number.{field}
use Rattle.acpi_lint.proofs.root_advice.rising_slots.Goals as goal

pub loop-slot-preserved : goal.loop-slot-preserved
loop-slot-preserved c =
    let f : ℕ → ℕ = λ k. field c.args.bytes.now (36 + c.args.width * k) c.args.width in
    let slot = c.loop-slot.slot in
    rw (c.in_ok-push.ensures.items, c.loop-slot.invariant, c.number_at.ensures)
    (rw (map-range_with_len_more f 0 slot slot (omega arith)) refl)
