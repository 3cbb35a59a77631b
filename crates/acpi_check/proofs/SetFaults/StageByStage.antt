-- Stages that are run one after another.
use Rattle.std.proofs.Common.{◌≡◌, ◌≤◌, ◌+◌, Result, Ok, Err, sym, ap, subst, inl, inr, arith}
use Rattle.std.specs.Result.{IsErr, IsErrAnd}
use Rattle.std.proofs.lemmas.Bool.{cases_lt}
use Rattle.acpi_base.specs.Codes.{stage_number}
use Rattle.acpi_base.specs.Memory.{Memory}
use Rattle.acpi_base.specs.Policy.{PolicyValue}
use Rattle.acpi_base.specs.Statements.{Holds, CleanBefore, CleanTo}
use Rattle.acpi_base.specs.declared.stage.Stage.{Stage}
use Rattle.acpi_base.specs.declared.stage.Stage.TheVariants as stage
use Rattle.acpi_base.specs.declared.witness.Witness.{Witness}
use Rattle.acpi_base.proofs.Faults.Numbers.{same_stage, stage_from_1}
use Rattle.acpi_check.specs.StageResults.{Reads, ReadsTo}

pub before_first : (m : Memory) (q : PolicyValue) → CleanBefore stage.Rsdp m q
before_first m q s before = absurd (omega (arith, stage_from_1 s, before))

pub clean_to : (s : Stage) {m : Memory} {q : PolicyValue} → CleanBefore s m q → Holds s m q → CleanTo s m q
clean_to s {m} {q} clean holds t up =
    elim (cases_lt (stage_number t) (stage_number s)) [
      | inl before ↦ clean t before
      | inr behind ↦ subst (λ (x : Stage). Holds x m q) (same_stage s t (omega (arith, behind, up))) holds
    ]

pub before_next : (s next : Stage) {m : Memory} {q : PolicyValue} → stage_number next ≡ stage_number s + 1
    → CleanTo s m q → CleanBefore next m q
before_next s next is clean t before = clean t (omega (arith, is, before))

pub clean_before : (s next : Stage) {m : Memory} {q : PolicyValue} → stage_number next ≡ stage_number s + 1
    → CleanBefore s m q → Holds s m q → CleanBefore next m q
clean_before s next is clean holds = before_next s next is (clean_to s clean holds)

-- a fault of a stage that is passed on is one of the stages up to a later one
pub fault_of : {T U : Type 0} (s last : Stage) {m : Memory} {q : PolicyValue} (P : T → Type 0) (Q : U → Type 0)
    (w : Witness) (r : Result U Witness) → IsErr r → IsErrAnd r (λ v. v ≡ w)
    → stage_number s ≤ stage_number last → CleanBefore s m q → Reads s m q P (Err w) → ReadsTo last m q Q r
fault_of s last P Q w (Ok _) err is up clean found = absurd cc
fault_of s last {m} {q} P Q w (Err v) err is up clean found =
    rw is (
      found.0,
      omega (arith, ap stage_number found.1, up),
      subst (λ (x : Stage). CleanBefore x m q) (sym found.1) clean,
    )

-- and so is a fault of the stages up to an earlier one
pub passed_on : {T U : Type 0} (s last : Stage) {m : Memory} {q : PolicyValue} (P : T → Type 0) (Q : U → Type 0)
    (w : Witness) (r : Result U Witness) → IsErr r → IsErrAnd r (λ v. v ≡ w)
    → stage_number s ≤ stage_number last → ReadsTo s m q P (Err w) → ReadsTo last m q Q r
passed_on s last P Q w (Ok _) err is up found = absurd cc
passed_on s last P Q w (Err v) err is up found = rw is (found.0, omega (arith, found.1, up), found.2)
