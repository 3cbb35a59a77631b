-- The laws of faults and of listed tables, on the definitions alone.
use Rattle.std.specs.Prelude.{◌≡◌, ◌^◌, ◌<◌, ◌≤◌, ◌⊎◌, ◌↔◌, ℕ, List, []}
use Rattle.std.specs.List.{Contains}
use Rattle.acpi_base.specs.Memory.{Memory, IsImage}
use Rattle.acpi_base.specs.Policy.{PolicyValue, IsPolicy}
use Rattle.acpi_base.specs.Codes.{stage_number, stage_of}
use Rattle.acpi_base.specs.Root.{IsSlotWidth, HasSlot}
use Rattle.acpi_base.specs.Listed.{listed_addresses}
use Rattle.acpi_base.specs.Statements.{CleanTo, IsClean}
use Rattle.acpi_base.specs.Faults.{Fault, IsFirstFault, IsVerdict}
use Rattle.acpi_base.specs.FirstOfCode.{IsFirstOfCode, AreFirstFaults}
use Rattle.acpi_base.specs.Text.WitnessText.{witness_line}
use Rattle.acpi_base.specs.declared.stage.Stage.{Stage}
use Rattle.acpi_base.specs.declared.witness.Witness.{Witness}
use Rattle.acpi_base.specs.declared.verdict.Verdict.{Verdict}

-- the three numbers have 64 bits
abbrev pub NumbersFit : Witness → Type 0
NumbersFit w = (w.at < 2 ^ 64) × (w.other < 2 ^ 64) × (w.point < 2 ^ 64)

-- with a fault of a stage up to `last`, the stages up to `last` do not all hold
abbrev pub FaultsExcludeClean : Type 0
FaultsExcludeClean =
    (m : Memory) (q : PolicyValue) (w : Witness) (last : Stage) → Fault m q w → stage_number (stage_of w.code) ≤ stage_number last → ¬ CleanTo last m q

-- the numbers of a fault fit
abbrev pub FaultsFit : Type 0
FaultsFit = (m : Memory) (q : PolicyValue) (w : Witness) → IsImage m → IsPolicy q → Fault m q w → NumbersFit w

-- the stages up to `last` hold, or one of them has a fault, whose numbers have 64 bits
abbrev pub CleanOrFaulty : Type 0
CleanOrFaulty =
    (m : Memory) (q : PolicyValue) → IsImage m → IsPolicy q → (last : Stage) → CleanTo last m q ⊎ ((w : Witness) × Fault m q w × (stage_number (stage_of w.code) ≤ stage_number last) × NumbersFit w)

-- the stages up to `last` hold, or one of them has the first fault
abbrev pub CleanOrFirstFault : Type 0
CleanOrFirstFault =
    (m : Memory) (q : PolicyValue) (last : Stage) → CleanTo last m q ⊎ ((w : Witness) × IsFirstFault m q w × (stage_number (stage_of w.code) ≤ stage_number last))

-- at most one fault is the first one
abbrev pub OneFirstFault : Type 0
OneFirstFault = (m : Memory) (q : PolicyValue) (w v : Witness) → IsFirstFault m q w → IsFirstFault m q v → w ≡ v

-- at most one verdict is right
abbrev pub OneVerdict : Type 0
OneVerdict =
    (last : Stage) (m : Memory) (q : PolicyValue) (one other : Verdict) → IsVerdict last m q one → IsVerdict last m q other → one ≡ other

-- the addresses that a root table's bytes list are those in its slots
abbrev pub RootsListSlots : Type 0
RootsListSlots =
    (whole : List ℕ) (d a : ℕ) → IsSlotWidth d → Contains (listed_addresses whole d) a ↔ ((k : ℕ) × HasSlot whole d k a)

-- two different faults have different texts
abbrev pub TextsDiffer : Type 0
TextsDiffer = (w v : Witness) → NumbersFit w → NumbersFit v → witness_line w ≡ witness_line v → w ≡ v

-- ---- the first faults of all codes

-- an image has no fault exactly if all stages hold
abbrev pub CleanWithoutFaults : Type 0
CleanWithoutFaults = (m : Memory) (q : PolicyValue) → ((w : Witness) → ¬ Fault m q w) ↔ IsClean m q

-- and so no code has a first fault
abbrev pub CleanWithoutFirsts : Type 0
CleanWithoutFirsts = (m : Memory) (q : PolicyValue) → ((w : Witness) → ¬ IsFirstOfCode m q w) ↔ IsClean m q

-- the first fault of an image is the first of its code
abbrev pub FirstIsFirstOfCode : Type 0
FirstIsFirstOfCode = (m : Memory) (q : PolicyValue) (w : Witness) → IsFirstFault m q w → IsFirstOfCode m q w

-- a code has one first fault at most
abbrev pub OneFirstOfCode : Type 0
OneFirstOfCode =
    (m : Memory) (q : PolicyValue) (w v : Witness) → w.code ≡ v.code → IsFirstOfCode m q w → IsFirstOfCode m q v → w ≡ v

-- no fault is reported exactly if all stages hold
abbrev pub NoneReportedOfClean : Type 0
NoneReportedOfClean =
    (m : Memory) (q : PolicyValue) (faults : List Witness) → AreFirstFaults m q faults → (faults ≡ []) ↔ IsClean m q

-- the first fault of an image is reported
abbrev pub FirstIsReported : Type 0
FirstIsReported =
    (m : Memory) (q : PolicyValue) (faults : List Witness) (w : Witness) → AreFirstFaults m q faults → IsFirstFault m q w → Contains faults w

-- and all that are reported are faults
abbrev pub ReportedAreFaults : Type 0
ReportedAreFaults =
    (m : Memory) (q : PolicyValue) (faults : List Witness) (w : Witness) → AreFirstFaults m q faults → Contains faults w → Fault m q w
