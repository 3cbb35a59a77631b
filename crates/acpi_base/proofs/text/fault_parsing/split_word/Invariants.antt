use Rattle.std.proofs.Common.{◌≡◌, true, take}
use Rattle.std.specs.List.{list_all}
use Rattle.acpi_base.specs.Text.WitnessText.{is_no_blank}
use Rattle.acpi_base.proofs.text.fault_parsing.split_word.Given as goal

-- no blank was passed
abbrev pub invariant-loop-i : goal.invariant-loop-i
invariant-loop-i l = list_all is_no_blank (take l.i l.text) ≡ true
