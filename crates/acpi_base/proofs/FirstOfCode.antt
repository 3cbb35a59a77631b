-- The first fault of each code: it is unique, it exists if there is a fault, and the first fault of an image is one.
use Rattle.std.proofs.Common.{◌≡◌, ◌≤◌, List, [], ◌∷◌, refl, sym, subst, inl, inr, arith}
use Rattle.acpi_base.specs.Memory.{Memory}
use Rattle.acpi_base.specs.Policy.{PolicyValue}
use Rattle.acpi_base.specs.Codes.{stage_number, stage_of}
use Rattle.acpi_base.specs.Statements.{IsClean}
use Rattle.acpi_base.specs.Faults.{Fault, FaultOfStage, IsLeastOfStage, IsFirstFault}
use Rattle.acpi_base.specs.FirstOfCode.{IsLeastOfCode, AreFirstFaults}
use Rattle.acpi_base.specs.Laws.{CleanWithoutFaults, CleanWithoutFirsts, FirstIsFirstOfCode, OneFirstOfCode, NoneReportedOfClean, FirstIsReported, ReportedAreFaults}
use Rattle.acpi_base.specs.declared.code.Code.{Code}
use Rattle.acpi_base.specs.declared.code.Code.TheVariants as code
use Rattle.acpi_base.specs.declared.stage.Stage.{Stage}
use Rattle.acpi_base.specs.declared.stage.Stage.TheVariants as stage
use Rattle.acpi_base.specs.declared.witness.Witness.{Witness}
use Rattle.acpi_base.proofs.Elements.{first_element, no_element}
use Rattle.acpi_base.proofs.Faults.HoldsOrFault.{IsFirstOfStage}
use Rattle.acpi_base.proofs.Faults.Laws.{clean_or_first_fault}
use Rattle.acpi_base.proofs.Faults.Order.{same_witness}
use Rattle.acpi_base.proofs.Faults.Stages.{excludes, one_first}

pub up_to_last : (s : Stage) → stage_number s ≤ stage_number stage.Leaves
up_to_last stage.Rsdp = omega arith
up_to_last _ = omega arith

least_of_code : (m : Memory) (q : PolicyValue) (w : Witness) (c : Code) → IsLeastOfStage (stage_of c) m q w
    → IsLeastOfCode c m q w
least_of_code m q w code.GsiClash least = least
least_of_code m q w code.Overlap least = least
least_of_code m q w c least =
    λ v same fault. least v (subst (λ (d : Code). FaultOfStage (stage_of d) m q v) same fault)

pub first_is_first_of_code : FirstIsFirstOfCode
first_is_first_of_code m q w first =
    record { fault = first.fault; least = least_of_code m q w w.code first.least }

clean_without : (m : Memory) (q : PolicyValue) → ((w : Witness) → ¬ IsFirstFault m q w) → IsClean m q
clean_without m q none =
    elim (clean_or_first_fault m q stage.Leaves) [
      | inl clean ↦ λ s. clean s (up_to_last s)
      | inr (w, first, _) ↦ absurd (none w first)
    ]

without_fault : (m : Memory) (q : PolicyValue) → IsClean m q → (w : Witness) → ¬ Fault m q w
without_fault m q clean w fault = excludes m q w (stage_of w.code) fault.holds (clean (stage_of w.code))

pub clean_without_faults : CleanWithoutFaults
clean_without_faults m q = (λ none. clean_without m q (λ w first. none w first.fault), without_fault m q)

pub clean_without_firsts : CleanWithoutFirsts
clean_without_firsts m q = (
  λ none. clean_without m q (λ w first. none w (first_is_first_of_code m q w first)),
  λ clean w first. without_fault m q clean w first.fault,
)

first_of_stage : (m : Memory) (q : PolicyValue) (w : Witness) (c : Code) → w.code ≡ c → Fault m q w
    → IsLeastOfStage (stage_of c) m q w → IsFirstOfStage (stage_of c) m q w
first_of_stage m q w c is fault least =
    record { holds = subst (λ (d : Code). FaultOfStage (stage_of d) m q w) is fault; least = least }

one_of_code : (m : Memory) (q : PolicyValue) (w v : Witness) (c : Code) → w.code ≡ c → v.code ≡ c → Fault m q w
    → Fault m q v → IsLeastOfCode c m q w → IsLeastOfCode c m q v → w ≡ v
one_of_code m q w v code.GsiClash is also one other least too =
    one_first stage.Interrupts m q w v (first_of_stage m q w code.GsiClash is one least)
    (first_of_stage m q v code.GsiClash also other too)
one_of_code m q w v code.Overlap is also one other least too =
    one_first stage.Ranges m q w v (first_of_stage m q w code.Overlap is one least)
    (first_of_stage m q v code.Overlap also other too)
one_of_code m q w v c is also one other least too = same_witness w v (least v also other) (too w is one)

pub one_first_of_code : OneFirstOfCode
one_first_of_code m q w v same one other =
    one_of_code m q w v v.code same refl one.fault other.fault
    (subst (λ (c : Code). IsLeastOfCode c m q w) same one.least) other.least

-- ---- the first faults of all codes

pub first_is_reported : FirstIsReported
first_is_reported m q faults w are first = (are.all w).1 (first_is_first_of_code m q w first)

pub reported_are_faults : ReportedAreFaults
reported_are_faults m q faults w are listed = ((are.all w).0 listed).fault

none_or_some : (m : Memory) (q : PolicyValue) (faults : List Witness) → AreFirstFaults m q faults → IsClean m q
    → faults ≡ []
none_or_some m q [] are clean = refl
none_or_some m q (w ∷ faults) are clean =
    absurd (without_fault m q clean w ((are.all w).0 (first_element w faults)).fault)

pub none_reported : NoneReportedOfClean
none_reported m q faults are = (
  λ none. clean_without m q (λ w first. no_element w (rw none at (first_is_reported m q faults w are first))),
  none_or_some m q faults are,
)
