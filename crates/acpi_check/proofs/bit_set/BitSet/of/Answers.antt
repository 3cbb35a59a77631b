use Rattle.std.proofs.Common.{ℕ, get_or}
use Rattle.std.proofs.lemmas.List.{get_or_default}
use Rattle.acpi_check.proofs.NodeLinks.OffsetsAdded.{none_added, one_added, all_added}
use Rattle.acpi_check.proofs.bit_set.BitSet.of.Goals as goal

pub loop-number-init : goal.loop-number-init
loop-number-init c = none_added c.args.numbers.now c.new-set.result c.new-set.ensures

pub loop-number-preserved : goal.loop-number-preserved
loop-number-preserved c =
    let numbers = c.args.numbers.now in
    let i = c.loop-number.number-index in
    let h : ℕ = get_or numbers i 0 in
    one_added numbers i h c.loop-number.set c.add.new.self c.loop-number-test.true
    (get_or_default numbers i h 0 c.loop-number-test.true) c.in_ok-add.ensures.ok c.loop-number.invariant

pub returns : goal.returns
returns c =
    all_added c.args.numbers.now c.loop-number.number-index c.loop-number.set c.loop-number-test.false
    c.loop-number.invariant
