use Rattle.std.proofs.Common.{◌≡◌, ◌+◌, ◌++◌, length, take, drop}
use Rattle.acpi_base.specs.Layouts.{FitValues, values_bytes, values_size}
use Rattle.acpi_base.proofs.field.put_values.Given as goal

-- what was written, with the values that remain, is the complete result
abbrev pub invariant-loop-value : goal.invariant-loop-value
invariant-loop-value l =
    (take l.offset l.out ++ values_bytes (drop l.value-index l.values) ≡ values_bytes l.values)
    × (l.offset + values_size (drop l.value-index l.values) ≡ length l.out)
    × (FitValues (drop l.value-index l.values) → FitValues l.values)
