-- Stages that are known to hold for a set.
use Rattle.std.specs.Prelude.{IsTrue, Bool, false}
use Rattle.acpi_base.specs.Memory.{Memory}
use Rattle.acpi_base.specs.Policy.{PolicyValue}
use Rattle.acpi_base.specs.Statements.{Holds}
use Rattle.acpi_base.specs.declared.stage.Stage.{Stage}
use Rattle.acpi_base.specs.declared.stage.Stage.TheVariants as stage
use Rattle.acpi_lint.specs.declared.held_stages.HeldStages.{HeldStages}

-- whether a stage is one of them
abbrev pub is_held : HeldStages → Stage → Bool
is_held held stage.Madt = held.madt
is_held held stage.Srat = held.srat
is_held held stage.Pptt = held.pptt
is_held held stage.References = held.references
is_held held _ = false

-- these hold
abbrev pub AreHeld : HeldStages → Memory → PolicyValue → Type 0
AreHeld held m q = (stage : Stage) → IsTrue (is_held held stage) → Holds stage m q
