use Rattle.std.proofs.Common.{arith}
use Rattle.acpi_base.proofs.Images.Adopted.{one_more}
use Rattle.acpi_base.proofs.image.draft.are_apart.Goals as goal

pub loop-i-preserved : goal.loop-i-preserved
loop-i-preserved c =
    let gap = c.if-next-from.false in
    rw c.from-next.ensures
    (one_more c.args.pieces.now c.loop-i.i _ c.loop-i.next (omega arith) (omega arith) c.requires (omega arith)
    c.loop-i.invariant)
