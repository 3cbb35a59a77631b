use Rattle.std.proofs.Common.{ℕ, List, length, get_or, ap, ◌∙◌, arith}
use Rattle.std.specs.Prelude.{slice_index}
use Rattle.acpi_base.specs.Memory.{with_bytes}
use Rattle.acpi_write.specs.Rebuilt.{place_of_facs}
use Rattle.acpi_write.specs.Views.{set_value}
use Rattle.acpi_write.proofs.SetParts.PartsInOrder.{place_count, part_count, first_place, none_so_far, next_part, all_put, narrow_there}
use Rattle.acpi_write.proofs.set_writing.written_set.Goals as goal

pub bounds-places-0 : goal.bounds-places-0
bounds-places-0 c =
    let v = set_value c.args.value.now in
    omega (arith, place_count v c.args.base c.args.places.now c.requires.places, part_count v)

pub prove-unreachable-requires : goal.prove-unreachable-requires
prove-unreachable-requires c =
    c.if-prove.true (first_place (set_value c.args.value.now) c.args.base c.args.places.now c.requires.places)

pub loop-k-init : goal.loop-k-init
loop-k-init c =
    none_so_far (set_value c.args.value.now) c.args.base c.new-image.result c.args.places.now c.requires.placed
    c.requires.places c.new-image.ensures.nothing

pub part-requires-clause-low : goal.part-requires-clause-low
part-requires-clause-low c = λ k d below narrow.
    let v = set_value c.args.value.now in
    let place = ap (λ (xs : List ℕ). place_of_facs v.facs (slice_index xs 2)) c.requires.places in
    let low = c.requires.placed.low (narrow_there c.args.value.now.tables.items k d below narrow) in
    omega (arith, place, low)

pub part-requires-clause-places : goal.part-requires-clause-places
part-requires-clause-places c = place_count (set_value c.args.value.now) c.args.base c.args.places.now c.requires.places

pub put-requires-clause-behind : goal.put-requires-clause-behind
put-requires-clause-behind c =
    let v = set_value c.args.value.now in
    (next_part c.loop-k.image c.args.places.now v c.args.base c.loop-k.k c.in_ok-bytes.bytes.items c.requires.places
    c.loop-k-test.true c.in_ok-bytes.ensures c.loop-k.invariant).behind

pub put-requires-clause-inside : goal.put-requires-clause-inside
put-requires-clause-inside c =
    let v = set_value c.args.value.now in
    let next = next_part c.loop-k.image c.args.places.now v c.args.base c.loop-k.k c.in_ok-bytes.bytes.items
    c.requires.places c.loop-k-test.true c.in_ok-bytes.ensures c.loop-k.invariant in
    omega (arith, next.fits, ap length c.deref.ensures.value)

pub loop-k-preserved : goal.loop-k-preserved
loop-k-preserved c =
    let v = set_value c.args.value.now in
    let found = c.args.places.now in
    let k = c.loop-k.k in
    let next = next_part c.loop-k.image found v c.args.base k c.in_ok-bytes.bytes.items c.requires.places
    c.loop-k-test.true c.in_ok-bytes.ensures c.loop-k.invariant in
    next.further c.put.new.image (c.in_ok-put.ensures ∙ ap
    (λ (b : List ℕ). with_bytes c.loop-k.image (get_or found k 0) b) c.deref.ensures.value)

pub returns : goal.returns
returns c = all_put c.loop-k.image c.args.places.now (set_value c.args.value.now) c.args.base c.loop-k.k
    c.requires.places (omega (arith, c.loop-k-test.false)) c.loop-k.invariant
