use Rattle.std.proofs.Common.{arith}
use Rattle.acpi_lint.specs.Rules.FadtBlocks.{IsBlockPastEnd}
use Rattle.acpi_lint.proofs.FadtBlocks.{first_block, none_with}
use Rattle.acpi_lint.proofs.fadt_blocks.block_past_end.Goals as goal

pub returns-in-Some : goal.returns-in-Some
returns-in-Some c =
    first_block (IsBlockPastEnd c.args.fadt.now) c.loop-k.k c.in-Some.place (omega (arith, c.loop-k-test.true))
    c.loop-k.invariant c.in-Some.ensures

pub loop-k-preserved : goal.loop-k-preserved
loop-k-preserved c =
    none_with (IsBlockPastEnd c.args.fadt.now) c.loop-k.k c.loop-k.invariant c.in_default.ensures
