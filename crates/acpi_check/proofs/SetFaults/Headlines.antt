-- The verdict over all stages.
use Rattle.std.proofs.Common.{◌≡◌, ◌≤◌, Result, Ok, Err, refl, arith}
use Rattle.std.specs.Prelude.{◌↔◌, IfOk}
use Rattle.acpi_base.specs.Memory.{Memory}
use Rattle.acpi_base.specs.Policy.{PolicyValue}
use Rattle.acpi_base.specs.Codes.{stage_number, stage_of}
use Rattle.acpi_base.specs.Faults.{IsVerdict, IsFirstFault}
use Rattle.acpi_base.specs.declared.stage.Stage.{Stage}
use Rattle.acpi_base.specs.declared.stage.Stage.TheVariants as stage
use Rattle.acpi_base.specs.declared.verdict.Verdict.{Verdict}
use Rattle.acpi_base.specs.declared.verdict.Verdict.TheVariants.{Yes, No}
use Rattle.acpi_base.specs.Statements.{IsClean}
use Rattle.acpi_base.proofs.Faults.Stages.{excludes}
use Rattle.acpi_check.specs.Headline.{IfNo}

to_18 : (s : Stage) → stage_number s ≤ 18
to_18 stage.Rsdp = omega arith
to_18 _ = omega arith

yes : (m : Memory) (q : PolicyValue) (verdict : Verdict) → IsVerdict stage.Leaves m q verdict
    → (verdict ≡ Yes) ↔ IsClean m q
yes m q Yes clean = (λ is s. clean s (to_18 s), λ all. refl)
yes m q (No w) first =
    (λ is. absurd cc, λ all. absurd (excludes m q w (stage_of w.code) first.0.fault.holds (all (stage_of w.code))))

no : (m : Memory) (q : PolicyValue) (verdict : Verdict) → IsVerdict stage.Leaves m q verdict
    → IfNo (IsFirstFault m q) verdict
no m q Yes clean = tt
no m q (No w) first = first.0

pub yes_found : {E : Type 0} (m : Memory) (q : PolicyValue) (result : Result Verdict E)
    → IfOk result (IsVerdict stage.Leaves m q) → IfOk result (λ verdict. (verdict ≡ Yes) ↔ IsClean m q)
yes_found m q (Ok verdict) is = yes m q verdict is
yes_found m q (Err refused) is = is

pub no_found : {E : Type 0} (m : Memory) (q : PolicyValue) (result : Result Verdict E)
    → IfOk result (IsVerdict stage.Leaves m q) → IfOk result (IfNo (IsFirstFault m q))
no_found m q (Ok verdict) is = no m q verdict is
no_found m q (Err refused) is = is
