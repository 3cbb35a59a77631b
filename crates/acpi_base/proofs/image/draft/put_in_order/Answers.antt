use Rattle.std.proofs.Common.{◌++◌, ap, ◌∙◌, arith}
use Rattle.acpi_base.proofs.Images.Ordered.{all_ordered, placed_more}
use Rattle.acpi_base.proofs.image.draft.put_in_order.Goals as goal

pub loop-i-preserved : goal.loop-i-preserved
loop-i-preserved c =
    let long = c.loop-i.auto.i-end in
    placed_more c.args.store.now c.args.pieces.now.items c.loop-i.i c.loop-i.ordered.items _ c.loop-i.pieces.items
    _ c.index_mut-piece.result.now _ c.loop-i.invariant (omega (arith, c.loop-i-test.true)) c.requires.lies
    c.index_mut-piece.ensures.value (omega (arith, c.len-piece.ensures))
    (c.in_ok-append.ensures.ok ∙ ap (λ bs. c.loop-i.ordered.items ++ bs) c.bytes.ensures)

pub returns-clause-draft : goal.returns-clause-draft
returns-clause-draft c =
    (all_ordered c.args.store.now c.args.pieces.now.items c.loop-i.i _ _ c.loop-i.invariant
    (omega (arith, c.loop-i-test.false)) c.requires.lies c.requires.apart).draft

pub returns-clause-apart : goal.returns-clause-apart
returns-clause-apart c =
    (all_ordered c.args.store.now c.args.pieces.now.items c.loop-i.i _ _ c.loop-i.invariant
    (omega (arith, c.loop-i-test.false)) c.requires.lies c.requires.apart).apart

pub returns-clause-same : goal.returns-clause-same
returns-clause-same c =
    (all_ordered c.args.store.now c.args.pieces.now.items c.loop-i.i _ _ c.loop-i.invariant
    (omega (arith, c.loop-i-test.false)) c.requires.lies c.requires.apart).same
