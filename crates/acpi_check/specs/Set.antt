-- The set of tables that the stages from the MADT's on check.
use Rattle.std.specs.Prelude.{◌≡◌, ⊤, Result}
use Rattle.acpi_base.specs.Memory.{Memory}
use Rattle.acpi_base.specs.Policy.{PolicyValue}
use Rattle.acpi_base.specs.Fadt.{IsFadt}
use Rattle.acpi_base.specs.Statements.{CleanBefore, CleanTo}
use Rattle.acpi_base.specs.declared.stage.Stage.{Stage}
use Rattle.acpi_base.specs.declared.stage.Stage.TheVariants as stage
use Rattle.acpi_check.specs.StageSets.{IsFacsNamed, IsListedSetOf}
use Rattle.acpi_check.specs.StageResults.{IsStageResult}
use Rattle.acpi_check.specs.declared.refusal.Refusal.{Refusal}
use Rattle.acpi_check.specs.declared.set.Set.{Set}

-- the stages up to the FACS hold for the image and the policy, and this is the set
pub record IsSetOf (m : Memory) (q : PolicyValue) (set : Set) : Type 0 where
  pub listed : IsListedSetOf m q.rsdp set.listed
  pub policy : set.policy.now ≡ q
  pub clean : CleanTo stage.Facs m q
  pub fadt : IsFadt m q.rsdp set.fadt
  pub facs : IsFacsNamed m set.fadt set.facs

-- the same for its own image and policy
abbrev pub IsSet : Set → Type 0
IsSet set = IsSetOf set.listed.image.now set.policy.now set

-- the stages before this one hold for a set
pub record IsReady (s : Stage) (set : Set) : Type 0 where
  pub clean : CleanBefore s set.listed.image.now set.policy.now
  pub tables : IsSet set

-- what the result of a stage means for a set
abbrev pub IsSetResult : Stage → Set → Result ⊤ Refusal → Type 0
IsSetResult s set result = IsStageResult s set.listed.image.now set.policy.now (λ _. ⊤) result
