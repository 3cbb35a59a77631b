use Rattle.std.proofs.Common.{arith}
use Rattle.acpi_base.proofs.Images.Twice.{scanned_all, scanned_more, scanned_none, scanned_skip, scanned_twice}
use Rattle.acpi_base.proofs.image.draft.twice_before.Goals as goal

pub loop-i-init : goal.loop-i-init
loop-i-init c = scanned_none c.args.pieces.now c.args.count

pub loop-i-preserved-then-present-eq0 : goal.loop-i-preserved-then-present-eq0
loop-i-preserved-then-present-eq0 c =
    let none = c.if-present-eq0.true in
    let present = c.present_before-present.ensures in
    scanned_skip c.args.pieces.now c.args.count c.loop-i.i c.loop-i.end (0, record { start = 0; len = 0 })
    c.loop-i-test.true (omega arith) c.loop-i.invariant

pub returns-then-from-end : goal.returns-then-from-end
returns-then-from-end c =
    let present = c.present_before-present.ensures in
    let some = c.if-present-eq0.false in
    let from = c.from.ensures in
    let low = c.if-from-end.true in
    scanned_twice c.args.pieces.now c.args.count c.loop-i.i c.loop-i.end _ c.requires.sorted c.loop-i-test.true
    (omega arith)
    (omega arith) c.loop-i.invariant

pub loop-i-preserved : goal.loop-i-preserved
loop-i-preserved c =
    let present = c.present_before-present.ensures in
    let from = c.from-in-loop-i.ensures in
    let first = c.from.ensures in
    let high = c.if-from-end.false in
    scanned_more c.args.pieces.now c.args.count c.loop-i.i c.loop-i.end _ (0, record { start = 0; len = 0 })
    c.loop-i-test.true (omega arith) (omega arith)
    c.loop-i.invariant

pub returns : goal.returns
returns c =
    scanned_all c.args.pieces.now c.args.count c.loop-i.i c.loop-i.end (omega (arith, c.loop-i-test.false))
    c.loop-i.invariant
