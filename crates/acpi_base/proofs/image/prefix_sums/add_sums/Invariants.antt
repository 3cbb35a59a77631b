use Rattle.std.proofs.Common.{◌≡◌, ◌*◌, ◌/◌, ◌≤◌, length, take}
use Rattle.acpi_base.specs.Number.{byte_sum}
use Rattle.acpi_base.specs.Image.Sums.{AreSums}
use Rattle.acpi_base.proofs.image.prefix_sums.add_sums.Given as goal

-- the sums so far, and the last of them
abbrev pub invariant-loop-block : goal.invariant-loop-block
invariant-loop-block l = record {
  each : AreSums l.sums.items l.bytes;
  count : length l.sums.items ≡ l.block;
  more : length l.initial.sums.items ≤ l.block;
  end : l.block-end ≡ length l.bytes / 128;
  within : l.block ≤ l.block-end;
  total : l.total ≡ byte_sum (take (128 * l.block) l.bytes);
}
