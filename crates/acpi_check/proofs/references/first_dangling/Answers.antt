use Rattle.std.proofs.Common.{below_more}
use Rattle.acpi_check.proofs.references.first_dangling.Goals as goal

pub loop-j-preserved : goal.loop-j-preserved
loop-j-preserved c =
    below_more _ _ c.loop-j.invariant
    (rw (c.from.ensures, c.u32_at-offset.ensures) at (rw c.if-not-has.false at c.has.ensures))
