-- What the verdict over all stages means.
use Rattle.acpi_base.specs.declared.verdict.Verdict.{Verdict}
use Rattle.acpi_base.specs.declared.verdict.Verdict.TheVariants.{Yes, No}
use Rattle.acpi_base.specs.declared.witness.Witness.{Witness}

-- if the verdict is No, P holds for its fault
abbrev pub IfNo : (Witness → Type 0) → Verdict → Type 0
IfNo P Yes = Unit {0}
IfNo P (No w) = P w
