use Rattle.std.proofs.Common.{◌≡◌, ◌+◌, ◌*◌, ◌++◌, ◌<◌, ◌≤◌, ◌^◌, ℕ, length, Bool, cond, not, List, [], ◌∷◌, ◌/◌, drop, refl, sym, ap, ◌∙◌, arith, inr, append_assoc, true}
use Rattle.std.proofs.lemmas.List.{append-nil}
use Rattle.std.specs.Prelude.{is_ok}
use Rattle.acpi_write.specs.Rebuilt.{block_places}
use Rattle.acpi_write.proofs.SetParts.PartLengths.{next_place, next_inside, inside_before, no_places, none_inside}
use Rattle.acpi_write.proofs.placing.places_of.Goals as goal

pub returns-then-end-clause-refused : goal.returns-then-end-clause-refused
returns-then-end-clause-refused c =
    let next = c.loop-length.next in
    inr (
      refl,
      λ all.
          let rest = next_inside next c.args.lengths.now c.loop-length.length-index c.from.result
          (omega (arith, c.loop-length-test.true)) c.from.ensures (c.loop-length.invariant.past all) in
          omega (arith, rest.0, c.if-end.true),
    )

pub loop-length-preserved : goal.loop-length-preserved
loop-length-preserved c =
    let before = c.loop-length.invariant in
    let next = c.loop-length.next in
    let i = c.loop-length.length-index in
    let lengths = c.args.lengths.now in
    let n = c.from.result in
    let below : i < length lengths = omega (arith, c.loop-length-test.true) in
    let top = c.if-end.false in
    let low = before.low in
    let fits : next + n ≤ 2 ^ 64 = omega (arith, top) in
    let ok : is_ok c.push.result ≡ true = c.is_err.ensures.negation ∙ ap not c.if-is_err.false in
    let rest = block_places ((next + n + 63) / 64 * 64) (drop (i + 1) lengths) in
    record {
      low = omega (arith, top);
      found =
          ap (λ (xs : List ℕ). xs ++ rest)
          (c.push.ensures.items ∙ ap (λ (t : Bool). cond t (c.loop-length.found.items ++ next ∷ [])
          c.loop-length.found.items) ok)
          ∙ append_assoc c.loop-length.found.items (next ∷ []) rest
          ∙ ap (λ (xs : List ℕ). c.loop-length.found.items ++ xs)
          (sym (next_place next lengths i n below c.from.ensures))
          ∙ before.found;
      inside = λ later. before.inside (inside_before next lengths i n below c.from.ensures fits later);
      past = λ all. (next_inside next lengths i n below c.from.ensures (before.past all)).1;
    }

pub returns-clause-places : goal.returns-clause-places
returns-clause-places c =
    let none = no_places c.loop-length.next c.args.lengths.now c.loop-length.length-index
    (omega (arith, c.loop-length-test.false)) in
    sym (append-nil c.loop-length.found.items) ∙ ap (λ (xs : List ℕ). c.loop-length.found.items ++ xs) (sym none)
    ∙ c.loop-length.invariant.found

pub returns-clause-inside : goal.returns-clause-inside
returns-clause-inside c =
    c.loop-length.invariant.inside
    (none_inside c.loop-length.next c.args.lengths.now c.loop-length.length-index
    (omega (arith, c.loop-length-test.false)))
