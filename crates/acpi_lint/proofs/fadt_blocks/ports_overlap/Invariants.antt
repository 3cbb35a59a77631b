use Rattle.std.proofs.Common.{◌≡◌, ◌++◌, drop, map}
use Rattle.acpi_lint.specs.Rules.Ports.{block_range, block_ranges, blocks}
use Rattle.acpi_lint.proofs.fadt_blocks.ports_overlap.Given as goal

-- the blocks so far, and those still to come
abbrev pub invariant-loop-k : goal.invariant-loop-k
invariant-loop-k l = l.ranges.items ++ map (block_range l.fadt) (drop l.k blocks) ≡ block_ranges l.fadt
