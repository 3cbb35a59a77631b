use Rattle.std.proofs.Common.{◌<◌}
use Rattle.acpi_base.specs.Codes.{stage_number}
use Rattle.acpi_base.specs.Statements.{Holds}
use Rattle.acpi_base.specs.declared.stage.Stage.{Stage}
use Rattle.acpi_check.proofs.stages.later_stages.Given as goal

-- the stages that were run hold
abbrev pub invariant-loop-number : goal.invariant-loop-number
invariant-loop-number l = (s : Stage) → stage_number s < l.number → Holds s l.set.listed.image.now l.set.policy.now
