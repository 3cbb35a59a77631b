-- The facts to be shown about a stage, from which it follows that it holds or has a first fault.
use Rattle.std.proofs.Common.{◌≡◌, ℕ, ◌<◌, ap, subst, inl, inr}
use Rattle.std.specs.Prelude.{◌⊎◌}
use Rattle.acpi_base.specs.Memory.{Memory}
use Rattle.acpi_base.specs.Policy.{PolicyValue}
use Rattle.acpi_base.specs.Codes.{stage_number, stage_of}
use Rattle.acpi_base.specs.Statements.{Holds, CleanBefore}
use Rattle.acpi_base.specs.Faults.{FaultCondition, FaultOfStage, NotAfter, IsLeastOfStage, IsFirstFault}
use Rattle.acpi_base.specs.declared.code.Code.{Code}
use Rattle.acpi_base.specs.declared.stage.Stage.{Stage}
use Rattle.acpi_base.specs.declared.witness.Witness.{Witness}
use Rattle.acpi_base.proofs.Faults.Deciding.{Decided, decided_as, both, same}
use Rattle.acpi_base.proofs.Faults.Least.{IsFirstInOrder, first_witness, witness}
use Rattle.acpi_base.proofs.Faults.Numbers.{same_stage}

-- the facts about a statement and its faults, which have codes of the stage: their numbers are bounded, each can be
-- decided, and without one the statement is true
pub record AreJudged (s : Stage) (Valid : Type 0) (IsFault : Code → ℕ → ℕ → ℕ → Type 0) : Type 0 where
  pub bound : ℕ
  pub fit : (c : Code) (at other point : ℕ) → IsFault c at other point
      → (at < bound) × (other < bound) × (point < bound)
  pub decided : (c : Code) (at other point : ℕ) → Decided (IsFault c at other point)
  pub holds : ((c : Code) (at other point : ℕ) → stage_of c ≡ s → ¬ IsFault c at other point) → Valid

-- the same for a stage of a set
abbrev pub IsJudged : Stage → Memory → PolicyValue → Type 0
IsJudged s m q = AreJudged s (Holds s m q) (λ c at other point. FaultCondition s m q (witness c at other point))

-- w is the first fault of the stage
pub record IsFirstOfStage (s : Stage) (m : Memory) (q : PolicyValue) (w : Witness) : Type 0 where
  pub holds : FaultOfStage s m q w
  pub least : IsLeastOfStage s m q w

-- the stage holds, or it has a first fault
abbrev pub HoldsOrHasFirst : Stage → Memory → PolicyValue → Type 0
HoldsOrHasFirst s m q = Holds s m q ⊎ ((w : Witness) × IsFirstOfStage s m q w)

pub least_fault : (s : Stage) (m : Memory) (q : PolicyValue) → IsJudged s m q
    → Holds s m q ⊎ ((w : Witness) × IsFirstInOrder NotAfter (FaultOfStage s m q) w)
least_fault s m q judged =
    elim (first_witness (FaultOfStage s m q) judged.bound
    (λ w fault. judged.fit w.code w.at w.other w.point fault.holds) decide) [
      | inl none ↦ inl (judged.holds
          (λ c at other point own fault. none (witness c at other point) (record { own = own; holds = fault })))
      | inr first ↦ inr first
    ]
  where
    decide : (w : Witness) → Decided (FaultOfStage s m q w)
    decide w =
        decided_as (λ h. record { own = same_stage (stage_of w.code) s h.0; holds = h.1 })
        (λ fault. (ap stage_number fault.own, fault.holds))
        (both (same (stage_number (stage_of w.code)) (stage_number s)) (judged.decided w.code w.at w.other w.point))

pub holds_or_has_first : {s : Stage} {m : Memory} {q : PolicyValue}
    → (((w : Witness) → ((v : Witness) → FaultOfStage s m q v → NotAfter w v) → IsLeastOfStage s m q w))
    → IsJudged s m q → HoldsOrHasFirst s m q
holds_or_has_first {s} {m} {q} same_order judged =
    elim (least_fault s m q judged) [
      | inl holds ↦ inl holds
      | inr (w, first) ↦ inr (w, record { holds = first.holds; least = same_order w first.least })
    ]

pub first_of_set : {s : Stage} {m : Memory} {q : PolicyValue} {w : Witness} → CleanBefore s m q → IsFirstOfStage s m q w
    → IsFirstFault m q w
first_of_set {s} {m} {q} {w} clean first =
    subst (λ (t : Stage). FaultOfStage t m q w → CleanBefore t m q → IsLeastOfStage t m q w → IsFirstFault m q w)
    first.holds.own
    (λ fault earlier least. record { fault = fault; earlier = earlier; least = least }) first.holds clean first.least
