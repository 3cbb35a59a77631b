use Rattle.std.proofs.Common.{◌/◌, ◌%◌, ◌<◌, length, ◌∙◌, inl, inr, arith}
use Rattle.std.specs.Prelude.{Result, Ok, Err, OnErr}
use Rattle.std.proofs.lemmas.List.{get_or_default}
use Rattle.std.proofs.lemmas.Nat.{one_shl}
use Rattle.acpi_check.specs.BitSets.{IsIn}
use Rattle.acpi_check.proofs.NodeLinks.OffsetBits.{same_bits, bit_added}
use Rattle.acpi_check.proofs.bit_set.BitSet.add.Goals as goal

pub returns-clause-ok : goal.returns-clause-ok
unfolding IsIn
returns-clause-ok c =
    let words = c.make_room.new.words in
    let place = c.args.number / 64 in
    let room : place < length words.items = omega (arith, c.in_ok-make_room.ensures.room, words.ok.0) in
    let word = c.index_mut.result.now in
    λ o.
    let added = bit_added words.items c.args.number word room
    (c.index_mut.ensures.value ∙ get_or_default words.items place word 0 room) o in
    let was = same_bits _ words.items c.in_ok-make_room.ensures.same o in
    rw (one_shl (c.args.number % 64) 64 (omega arith)) (
      λ is. elim (added.0 is) [ inl same ↦ inl same | inr old ↦ inr (was.0 old) ],
      λ either. added.1 (elim either [ inl same ↦ inl same | inr old ↦ inr (was.1 old) ]),
    )

-- what holds anyway holds of an error
on_err : {T E : Type 0} (r : Result T E) (P : Type 0) → P → OnErr r P
on_err (Ok v) P holds = tt
on_err (Err e) P holds = holds

pub returns-in_err-make_room-clause-err : goal.returns-in_err-make_room-clause-err
unfolding IsIn
returns-in_err-make_room-clause-err c =
    on_err c.from_residual.result _ (λ o.
    same_bits c.args.self.now.words.items c.make_room.new.words.items c.in_err-make_room.ensures.same o)
