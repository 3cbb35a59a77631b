use Rattle.std.proofs.Common.{◌-◌, ◌<◌, ◌≤◌}
use Rattle.acpi_base.specs.Codes.{code_number}
use Rattle.acpi_base.specs.Text.WitnessText.{IsHead}
use Rattle.acpi_base.specs.declared.code.Code.{Code}
use Rattle.acpi_base.proofs.text.fault_parsing.code_with.Given as goal

-- no code with a lower number begins so
abbrev pub invariant-loop-code : goal.invariant-loop-code
invariant-loop-code l = (1 ≤ l.number) × ((c : Code) → code_number c < l.number → ¬ IsHead l.stage l.name c)

abbrev pub decreases-loop-code : goal.decreases-loop-code
decreases-loop-code l = 256 - l.number
