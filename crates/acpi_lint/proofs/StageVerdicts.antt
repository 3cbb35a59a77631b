-- From the verdict of a stage that has one code to the lowest place of its faults.
use Rattle.std.proofs.Common.{◌≡◌, ℕ, Option, Some, None, Result, Ok, Err, ap, inl, inr, arith}
use Rattle.std.specs.Prelude.{⊤, IfOk}
use Rattle.acpi_base.specs.Codes.{code_number}
use Rattle.acpi_base.specs.Faults.{NotAfter}
use Rattle.acpi_base.specs.declared.code.Code.{Code}
use Rattle.acpi_base.specs.declared.stage.Stage.{Stage}
use Rattle.acpi_base.specs.declared.witness.Witness.{Witness}
use Rattle.acpi_check.specs.TableResults.{FindsFirst}
use Rattle.acpi_check.specs.declared.refusal.Refusal.{Refusal}
use Rattle.acpi_check.specs.declared.refusal.Refusal.TheVariants.{Fault}
use Rattle.acpi_rules.specs.Places.{IsNotAfter, FindsLeast}
use Rattle.acpi_lint.specs.StageFaults.{IsPlaceOf}
use Rattle.acpi_rules.specs.declared.place.Place.{Place}

-- the place of a witness
abbrev pub place : Witness → Place
place w = record { at = w.at; other = w.other; point = w.point }

pub place_not_after : (w v : Witness) → w.code ≡ v.code → NotAfter w v → IsNotAfter (place w) v.at v.other v.point
place_not_after w v same (inl before) = inl before
place_not_after w v same (inr (at, inl less)) = absurd (omega (arith, less, ap code_number same))
place_not_after w v same (inr (at, inr (code, rest))) = inr (at, rest)

-- the stage of a code that is alone in it finds the code's lowest place
pub of_verdict : (s : Stage) (c : Code) (Valid : Type 0) (IsFault : Code → ℕ → ℕ → ℕ → Type 0)
    → ((at other point : ℕ) → IsFault c at other point → ¬ Valid)
    → ((d : Code) (at other point : ℕ) → IsFault d at other point → d ≡ c)
    → (verdict : Result ⊤ Refusal) (found : Option Place) → FindsFirst s Valid IsFault verdict → IsPlaceOf verdict found
    → FindsLeast (IsFault c) found
of_verdict s c Valid IsFault excludes one (Ok _) None valid is = λ at other point fault. excludes at other point fault
    valid
of_verdict s c Valid IsFault excludes one (Err (Fault w)) (Some p) first is =
    let code : w.code ≡ c = one w.code w.at w.other w.point first.fault in
    rw is record {
      here = rw code at first.fault;
      least = λ at other point fault.
          place_not_after w (record { code = c; at = at; other = other; point = point }) code
          (first.least (record { code = c; at = at; other = other; point = point }) fault);
    }
of_verdict s c Valid IsFault excludes one _ _ found is = absurd is

-- the same if memory may run out
pub verdict_found : (s : Stage) (c : Code) (Valid : Type 0) (IsFault : Code → ℕ → ℕ → ℕ → Type 0) {X : Type 0}
    → ((at other point : ℕ) → IsFault c at other point → ¬ Valid)
    → ((d : Code) (at other point : ℕ) → IsFault d at other point → d ≡ c)
    → (verdict : Result ⊤ Refusal) (r : Result (Option Place) X) → FindsFirst s Valid IsFault verdict
    → IfOk r (IsPlaceOf verdict) → IfOk r (FindsLeast (IsFault c))
verdict_found s c Valid IsFault excludes one verdict (Ok found) first is =
    of_verdict s c Valid IsFault excludes one verdict found first is
verdict_found s c Valid IsFault excludes one verdict (Err e) first is = tt
