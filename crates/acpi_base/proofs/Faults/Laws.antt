-- The laws of faults.
use Rattle.std.proofs.Common.{refl, sym, ap, subst, inl, inr, arith}
use Rattle.std.proofs.lemmas.Bool.{cases_order}
use Rattle.acpi_base.specs.Codes.{stage_number, stage_of}
use Rattle.acpi_base.specs.Laws.{FaultsExcludeClean, FaultsFit, CleanOrFaulty, CleanOrFirstFault, OneFirstFault, OneVerdict}
use Rattle.acpi_base.specs.declared.stage.Stage.{Stage}
use Rattle.acpi_base.specs.declared.verdict.Verdict.TheVariants.{Yes, No}
use Rattle.acpi_base.proofs.Faults.Numbers.{same_stage}
use Rattle.acpi_base.proofs.Faults.HoldsOrFault.{IsFirstOfStage}
use Rattle.acpi_base.proofs.Faults.Stages.{clean_or_first, excludes, fits, one_first}

pub fault_excludes_clean : FaultsExcludeClean
fault_excludes_clean m q w last fault up_to clean =
    excludes m q w (stage_of w.code) fault.holds (clean (stage_of w.code) up_to)

pub faults_fit : FaultsFit
faults_fit m q w image policy fault = fits m q w image policy (stage_of w.code) fault.holds

pub clean_or_first_fault : CleanOrFirstFault
clean_or_first_fault m q last =
    elim (clean_or_first m q (stage_number last)) [
      | inl clean ↦ inl (λ s up_to. clean s (omega arith))
      | inr first ↦ inr first
    ]

pub clean_or_fault : CleanOrFaulty
clean_or_fault m q image policy last =
    elim (clean_or_first_fault m q last) [
      | inl clean ↦ inl clean
      | inr (w, first, of_stage) ↦ inr (w, first.fault, of_stage, faults_fit m q w image policy first.fault)
    ]

pub one_first_fault : OneFirstFault
one_first_fault m q w v one other =
    elim (cases_order (stage_number (stage_of w.code)) (stage_number (stage_of v.code))) [
      | inl same ↦
          let there = subst (λ (s : Stage). IsFirstOfStage s m q v)
          (sym (same_stage (stage_of w.code) (stage_of v.code) same))
          (record { holds = other.fault; least = other.least }) in
          one_first (stage_of w.code) m q w v (record { holds = one.fault; least = one.least }) there
      | inr (inl less) ↦ absurd (excludes m q w (stage_of w.code) one.fault.holds
          (other.earlier (stage_of w.code) less))
      | inr (inr more) ↦ absurd (excludes m q v (stage_of v.code) other.fault.holds
          (one.earlier (stage_of v.code) more))
    ]

pub one_verdict : OneVerdict
one_verdict last m q Yes Yes one other = refl
one_verdict last m q Yes (No v) one other = absurd (fault_excludes_clean m q v last other.0.fault other.1 one)
one_verdict last m q (No w) Yes one other = absurd (fault_excludes_clean m q w last one.0.fault one.1 other)
one_verdict last m q (No w) (No v) one other = ap No (one_first_fault m q w v one.0 other.0)
