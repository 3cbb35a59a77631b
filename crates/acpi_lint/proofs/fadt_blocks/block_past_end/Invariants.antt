use Rattle.std.proofs.Common.{ℕ, ◌<◌}
use Rattle.acpi_lint.specs.Rules.FadtBlocks.{IsBlockPastEnd}
use Rattle.acpi_lint.specs.FadtPlaces.{IsOfBlock}
use Rattle.acpi_lint.proofs.fadt_blocks.block_past_end.Given as goal

-- no block before this one ends past the last port
abbrev pub invariant-loop-k : goal.invariant-loop-k
invariant-loop-k l = (j at other point : ℕ) → j < l.k → ¬ IsOfBlock (IsBlockPastEnd l.fadt) j at other point
