use Rattle.std.proofs.Common.{◌≤◌, ◌<◌, ◌/◌, length, ◌∙◌, arith}
use Rattle.std.proofs.lemmas.Bool.{le-ltb}
use Rattle.std.proofs.lemmas.List.{get_or_default}
use Rattle.acpi_check.specs.BitSets.{IsIn}
use Rattle.acpi_check.proofs.NodeLinks.OffsetBits.{bit_read, none_behind}
use Rattle.acpi_check.proofs.bit_set.BitSet.has.Goals as goal

pub returns-then-place-len : goal.returns-then-place-len
unfolding IsIn
returns-then-place-len c =
    let words = c.args.self.now.words in
    let place = c.args.number / 64 in
    let within : place < length words.items = omega (arith, c.if-place-len.true, c.len.ensures, words.ok.0) in
    bit_read words.items c.args.number c.index.result.now
    (c.index.ensures ∙ get_or_default words.items place c.index.result.now 0 within)

pub returns-else-place-len : goal.returns-else-place-len
unfolding IsIn
returns-else-place-len c =
    let words = c.args.self.now.words in
    let past : length words.items ≤ c.args.number / 64 =
    omega (arith, c.if-place-len.false, c.len.ensures, words.ok.0) in
    rw (le-ltb (c.args.number / 64) c.len.result c.if-place-len.false) (none_behind words.items c.args.number past)
