-- What the result of a stage means.
use Rattle.std.specs.Prelude.{◌≡◌, ◌<◌, ◌≤◌, Result, Ok, Err}
use Rattle.acpi_base.specs.declared.witness.Witness.{Witness}
use Rattle.acpi_base.specs.Memory.{Memory}
use Rattle.acpi_base.specs.Policy.{PolicyValue}
use Rattle.acpi_base.specs.Codes.{stage_number, stage_of}
use Rattle.acpi_base.specs.Statements.{Holds, CleanBefore, CleanTo}
use Rattle.acpi_base.specs.Faults.{IsFirstFault}
use Rattle.acpi_base.specs.declared.stage.Stage.{Stage}
use Rattle.acpi_base.specs.declared.stage.Stage.TheVariants as stage
use Rattle.acpi_check.specs.declared.refusal.Refusal.{Refusal}
use Rattle.acpi_check.specs.declared.refusal.Refusal.TheVariants.{Fault, OutOfMemory}

-- If the result is Ok the stage holds, and P holds for the value; a fault is the first of the set, and one of the
-- stage's. Stages 1 to 6 never run out of memory.
abbrev pub IsStageResult : {T : Type 0} → Stage → Memory → PolicyValue → (T → Type 0) → Result T Refusal → Type 0
IsStageResult s m q P (Ok value) = Holds s m q × P value
IsStageResult s m q P (Err (Fault w)) = IsFirstFault m q w × (stage_of w.code ≡ s)
IsStageResult s m q P (Err OutOfMemory) = 6 < stage_number s

-- The same for all stages up to `last`; P says what Ok means. A fault is one of these stages, and memory runs out
-- only if the stages up to the MADT's entries hold.
abbrev pub IsResultTo : {T : Type 0} → Stage → Memory → PolicyValue → (T → Type 0) → Result T Refusal → Type 0
IsResultTo last m q P (Ok value) = P value
IsResultTo last m q P (Err (Fault w)) = IsFirstFault m q w × (stage_number (stage_of w.code) ≤ stage_number last)
IsResultTo last m q P (Err OutOfMemory) = (6 < stage_number last) × CleanTo stage.Madt m q

-- The same for stages that never run out of memory: for one, and for all up to `last`, of which those before the fault's
-- stage hold.
abbrev pub Reads : {T : Type 0} → Stage → Memory → PolicyValue → (T → Type 0) → Result T Witness → Type 0
Reads s m q P (Ok value) = Holds s m q × P value
Reads s m q P (Err w) = IsFirstFault m q w × (stage_of w.code ≡ s)

abbrev pub ReadsTo : {T : Type 0} → Stage → Memory → PolicyValue → (T → Type 0) → Result T Witness → Type 0
ReadsTo last m q P (Ok value) = CleanTo last m q × P value
ReadsTo last m q P (Err w) = IsFirstFault m q w × (stage_number (stage_of w.code) ≤ stage_number last) × CleanBefore (stage_of w.code) m q
