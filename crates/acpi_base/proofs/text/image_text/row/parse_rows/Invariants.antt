use Rattle.std.proofs.Common.{◌≡◌, ◌*◌, ◌≤◌, ◌-◌, length, take}
use Rattle.acpi_base.specs.Text.Rows.{AreRows}
use Rattle.acpi_base.proofs.text.image_text.row.parse_rows.Given as goal

-- the rows so far, whose bytes are in the buffer
abbrev pub invariant-loop-count : goal.invariant-loop-count
invariant-loop-count l = record {
  rows : AreRows l.text l.count (take (16 * l.count) l.bytes);
  room : 16 * l.count ≤ length l.bytes;
  long : length l.bytes ≡ length l.initial.bytes;
}

abbrev pub decreases-loop-count : goal.decreases-loop-count
decreases-loop-count l = length l.text - 48 * l.count
