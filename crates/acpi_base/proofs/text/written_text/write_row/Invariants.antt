use Rattle.std.proofs.Common.{◌≡◌, ◌*◌, ◌++◌, length, take, drop}
use Rattle.acpi_base.specs.Text.WrittenText.{spaced_pairs}
use Rattle.acpi_base.proofs.text.written_text.write_row.Given as goal

-- what is written, and what is still to come
abbrev pub invariant-loop-byte : goal.invariant-loop-byte
invariant-loop-byte l = record {
  size : length l.line ≡ 49;
  place : l.end ≡ 3 * l.byte-index;
  text : take l.end l.line ++ spaced_pairs (drop l.byte-index l.bytes) ≡ spaced_pairs l.bytes;
}
