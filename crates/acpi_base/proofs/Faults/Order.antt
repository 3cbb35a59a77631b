-- The order of faults.
use Rattle.std.proofs.Common.{◌≡◌, ◌<◌, ◌≤◌, inl, inr, arith}
use Rattle.std.specs.Prelude.{◌⊎◌}
use Rattle.std.proofs.lemmas.Bool.{cases_lt}
use Rattle.acpi_base.specs.Codes.{code_number}
use Rattle.acpi_base.specs.Faults.{NotAfter}
use Rattle.acpi_base.specs.declared.witness.Witness.{Witness}
use Rattle.acpi_base.proofs.Faults.Least.{same_parts}
use Rattle.acpi_base.proofs.Faults.Numbers.{same_code}

pub same_witness : (w v : Witness) → NotAfter w v → NotAfter v w → w ≡ v
same_witness w v one other =
    let at : w.at ≡ v.at = omega (arith, one, other) in
    let number : code_number w.code ≡ code_number v.code = omega (arith, one, other) in
    let second : w.other ≡ v.other = omega (arith, one, other) in
    let point : w.point ≡ v.point = omega (arith, one, other) in
    same_parts (same_code w.code v.code number) at second point

pub not_after : (w v : Witness) → (w.at < v.at) ⊎ ((w.at ≡ v.at) × (code_number w.code ≤ code_number v.code))
    → w.other ≡ v.other → w.point ≡ v.point → NotAfter w v
not_after w v (inl before) other point = inl before
not_after w v (inr (at, code)) other point =
    elim (cases_lt (code_number w.code) (code_number v.code)) [
      | inl lower ↦ inr (at, inl lower)
      | inr up ↦ inr (at, inr (omega arith, inr (other, omega arith)))
    ]
