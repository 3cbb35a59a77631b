use Rattle.std.proofs.Common.{◌≡◌, ◌<◌, ℕ, length, map, List, sym, ap, ◌∙◌, subst, inr, arith}
use Rattle.std.specs.List.{All, list_any}
use Rattle.std.specs.Prelude.{slice_index}
use Rattle.std.proofs.lemmas.List.{length-map}
use Rattle.acpi_write.specs.Placed.{block_ends, DoEndInside, is_narrow}
use Rattle.acpi_write.specs.Rebuilt.{block_places, part_lengths, part_places, facs_place}
use Rattle.acpi_write.specs.Views.{set_value, table_value}
use Rattle.acpi_write.proofs.SetParts.PartLengths.{parts_some, facs_is_placed, facs_place_is, any_default}
use Rattle.acpi_write.proofs.placing.placed.Goals as goal

pub places_of-requires : goal.places_of-requires
places_of-requires c =
    let v = set_value c.args.value.now in
    subst (All (λ n. 0 < n)) (sym (c.deref.ensures.value ∙ c.in_ok-lengths.ensures)) (parts_some v c.requires.facs)

pub index-requires : goal.index-requires
index-requires c =
    let v = c.args.value.now in
    let found : c.in_ok-found.found.items ≡ part_places (set_value v) c.args.base =
    c.in_ok-found.ensures.places ∙ ap (block_places c.args.base)
    (c.deref.ensures.value ∙ c.in_ok-lengths.ensures) in
    let three = facs_is_placed v c.args.base (sym c.is_some.ensures ∙ c.if-is_some.true) in
    let count = ap length found in
    let all = c.in_ok-found.found.ok in
    omega (arith, three, count, all)

pub returns-then-is_one_narrow-clause-refused : goal.returns-then-is_one_narrow-clause-refused
returns-then-is_one_narrow-clause-refused c =
    let v = c.args.value.now in
    let lengths : c.deref.result.now ≡ part_lengths (set_value v) = c.deref.ensures.value ∙ c.in_ok-lengths.ensures in
    let found : c.in_ok-found.found.items ≡ part_places (set_value v) c.args.base =
    c.in_ok-found.ensures.places ∙ ap (block_places c.args.base) lengths in
    let count = length-map v.tables.items table_value in
    let all = v.tables.ok in
    let short = c.if-xsdt_length-from.false in
    let size = c.xsdt_length.ensures in
    let n = c.len.ensures in
    let high = c.if-index.true in
    let some = sym c.is_some.ensures ∙ c.if-is_some.true in
    let three = facs_is_placed v c.args.base some in
    let longer = ap length found in
    let inside : 2 < length c.in_ok-found.found.items = omega (arith, three, longer) in
    let place : c.index.result.now ≡ facs_place (set_value v) c.args.base =
    c.index.ensures ∙ any_default c.in_ok-found.found.items 2 c.index.result.now 0 inside
    ∙ ap (λ (xs : List ℕ). slice_index xs 2) found ∙ sym
    (facs_place_is v c.args.base (sym c.is_some.ensures ∙ c.if-is_some.true)) in
    inr (
      omega (arith, count, all, short, size, n),
      subst (λ (ns : List ℕ). DoEndInside (block_ends c.args.base ns)) lengths c.in_ok-found.ensures.inside,
      ap (λ ts. list_any is_narrow (map table_value ts)) (sym c.deref-then-index.ensures.value)
          ∙ sym c.is_one_narrow.ensures ∙ c.if-is_one_narrow.true,
      omega (arith, place, high),
    )
