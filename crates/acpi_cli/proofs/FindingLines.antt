-- The lines of faults.
use Rattle.std.proofs.Common.{◌≡◌, List, [], ◌∷◌, false, length, true≢false, refl}
use Rattle.std.specs.Prelude.{◌==◌}
use Rattle.std.specs.List.{flat_map}
use Rattle.acpi_base.specs.declared.witness.Witness.{Witness}
use Rattle.acpi_cli.specs.Commands.{fault_lines, no_line}

pub lines_of_faults : (faults : List Witness) → (length faults == 0) ≡ false
    → fault_lines faults ≡ flat_map no_line faults
lines_of_faults [] none = absurd (true≢false none)
lines_of_faults (w ∷ ws) none = refl
