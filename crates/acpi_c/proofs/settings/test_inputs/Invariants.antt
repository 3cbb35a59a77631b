use Rattle.std.proofs.Common.{◌≡◌, drop}
use Rattle.acpi_c.specs.Settings.{inputs_refusal}
use Rattle.acpi_c.proofs.settings.test_inputs.Given as goal

-- of all numbers, the first that is out of range is among those that are left
abbrev pub invariant-loop-index : goal.invariant-loop-index
invariant-loop-index l = inputs_refusal l.index (drop l.index l.inputs) ≡ inputs_refusal 0 l.inputs
