use Rattle.std.proofs.Common.{ℕ, List, get_or, ap, ◌∙◌, arith}
use Rattle.std.specs.Prelude.{slice_index}
use Rattle.acpi_write.specs.Rebuilt.{place_of_facs}
use Rattle.acpi_write.specs.Views.{set_value}
use Rattle.acpi_write.proofs.SetParts.PartsAppended.{all_parts, appended_at, behind_parts, next_appended, no_parts, part_some}
use Rattle.acpi_write.proofs.SetParts.PartsInOrder.{place_count, narrow_there}
use Rattle.acpi_write.proofs.set_bytes.set_bytes.Goals as goal

pub loop-k-init : goal.loop-k-init
loop-k-init c =
    no_parts c.new-bytes.result.items c.args.places.now (set_value c.args.value.now) c.args.base c.requires.placed
    c.requires.places c.new-bytes.ensures.items

pub part-requires-clause-low : goal.part-requires-clause-low
part-requires-clause-low c = λ k d below narrow.
    let v = set_value c.args.value.now in
    let place = ap (λ (xs : List ℕ). place_of_facs v.facs (slice_index xs 2)) c.requires.places in
    let low = c.requires.placed.low (narrow_there c.args.value.now.tables.items k d below narrow) in
    omega (arith, place, low)

pub part-requires-clause-places : goal.part-requires-clause-places
part-requires-clause-places c = place_count (set_value c.args.value.now) c.args.base c.args.places.now c.requires.places

pub overflow_sub-places : goal.overflow_sub-places
overflow_sub-places c =
    omega (
      arith,
      behind_parts c.loop-k.bytes.items c.args.places.now (set_value c.args.value.now) c.args.base c.loop-k.k
          c.in_ok-part.part.items c.requires.places c.loop-k-test.true c.in_ok-part.ensures c.loop-k.invariant,
    )

pub append_at-requires : goal.append_at-requires
append_at-requires c =
    omega (
      arith,
      behind_parts c.loop-k.bytes.items c.args.places.now (set_value c.args.value.now) c.args.base c.loop-k.k
          c.in_ok-part.part.items c.requires.places c.loop-k-test.true c.in_ok-part.ensures c.loop-k.invariant,
    )

pub loop-k-preserved : goal.loop-k-preserved
loop-k-preserved c =
    let v = set_value c.args.value.now in
    let found = c.args.places.now in
    let k = c.loop-k.k in
    let part = c.in_ok-part.part.items in
    next_appended c.loop-k.bytes.items found v c.args.base k part c.append_at.new.bytes.items c.requires.places
    c.loop-k-test.true c.in_ok-part.ensures
    (part_some found v c.args.base k part c.requires.places c.loop-k-test.true c.requires.facs c.in_ok-part.ensures)
    c.loop-k.invariant
    (c.in_ok-append_at.ensures ∙ ap
    (λ (b : List ℕ). appended_at c.args.base c.loop-k.bytes.items (get_or found k 0) b) c.deref.ensures.value)

pub returns : goal.returns
returns c =
    all_parts c.loop-k.bytes.items c.args.places.now (set_value c.args.value.now) c.args.base c.loop-k.k
    c.requires.places (omega (arith, c.loop-k-test.false)) c.loop-k.invariant
