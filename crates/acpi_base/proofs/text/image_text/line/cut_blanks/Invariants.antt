use Rattle.std.proofs.Common.{◌≡◌, drop}
use Rattle.acpi_base.specs.Text.ImageText.{skip_blanks}
use Rattle.acpi_base.proofs.text.image_text.line.cut_blanks.Given as goal

-- what was passed is blank
abbrev pub invariant-loop-i : goal.invariant-loop-i
invariant-loop-i l = skip_blanks (drop l.i l.line) ≡ skip_blanks l.line
