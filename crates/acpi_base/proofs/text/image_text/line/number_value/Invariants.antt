use Rattle.std.proofs.Common.{◌≡◌, ◌<◌, ◌^◌, drop}
use Rattle.acpi_base.specs.Text.ImageText.{hex_number}
use Rattle.acpi_base.proofs.text.image_text.line.number_value.Given as goal

-- the number is that of the digits so far
abbrev pub invariant-loop-byte : goal.invariant-loop-byte
invariant-loop-byte l = record {
  number : hex_number l.value (drop l.byte-index l.digits) ≡ hex_number 0 l.digits;
  fits : l.value < 16 ^ l.byte-index;
}
