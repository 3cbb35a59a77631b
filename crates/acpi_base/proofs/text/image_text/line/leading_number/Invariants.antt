use Rattle.std.proofs.Common.{◌≡◌, ◌+◌, ◌<◌, ◌≤◌, ◌^◌, drop}
use Rattle.std.specs.Prelude.{take_while}
use Rattle.std.specs.List.{prefix_len}
use Rattle.acpi_base.specs.Text.ImageText.{hex_number, is_hex_digit}
use Rattle.acpi_base.proofs.text.image_text.line.leading_number.Given as goal

-- what was passed is digits, at most 16, and the number is theirs
abbrev pub invariant-loop-i : goal.invariant-loop-i
invariant-loop-i l = record {
  digits : prefix_len is_hex_digit l.text ≡ l.i + prefix_len is_hex_digit (drop l.i l.text);
  number : hex_number l.value (take_while is_hex_digit (drop l.i l.text))
      ≡ hex_number 0 (take_while is_hex_digit l.text);
  few : l.i ≤ 16;
  fits : l.value < 16 ^ l.i;
}
