-- Places of faults with a code, and what is found for a code and for a rule.
use Rattle.std.specs.Prelude.{◌≡◌, ⊤, Option, Some, None, Result, Ok, Err, ℕ, option_map}
use Rattle.acpi_base.specs.Memory.{Memory}
use Rattle.acpi_base.specs.Policy.{PolicyValue}
use Rattle.acpi_base.specs.Faults.{FaultCondition}
use Rattle.acpi_lint.specs.Rules.Advice.{IsFirstAdvice}
use Rattle.acpi_lint.specs.Rules.Rows.{rule_number}
use Rattle.acpi_base.specs.FirstOfCode.{FindsFirstOfCode}
use Rattle.acpi_lint.specs.declared.rule.Advice.{Advice}
use Rattle.acpi_base.specs.declared.code.Code.{Code}
use Rattle.acpi_base.specs.declared.stage.Stage.{Stage}
use Rattle.acpi_base.specs.declared.witness.Witness.{Witness}
use Rattle.acpi_check.specs.declared.refusal.Refusal.{Refusal}
use Rattle.acpi_check.specs.declared.refusal.Refusal.TheVariants.{Fault}
use Rattle.acpi_rules.specs.declared.place.Place.{Place}

-- the place is that of the verdict's fault, or there is none if the stage holds
abbrev pub IsPlaceOf : Result ⊤ Refusal → Option Place → Type 0
IsPlaceOf (Ok _) None = Unit {0}
IsPlaceOf (Err (Fault w)) (Some p) = p ≡ record { at = w.at; other = w.other; point = w.point }
IsPlaceOf _ _ = ⊥

-- the condition of the stage's faults with this code holds for these numbers
abbrev pub IsFaultOfStage : Stage → Code → Memory → PolicyValue → ℕ → ℕ → ℕ → Type 0
IsFaultOfStage stage fault m q at other point =
    FaultCondition stage m q (record { code = fault; at = at; other = other; point = point })

-- the fault with this code at a place
abbrev pub fault_at : Code → Place → Witness
fault_at fault p = record { code = fault; at = p.at; other = p.other; point = p.point }

-- the image has no fault with the code, or the first one is at this place
abbrev pub FindsFirstAt : Code → Memory → PolicyValue → Option Place → Type 0
FindsFirstAt fault m q found = FindsFirstOfCode fault m q (option_map (fault_at fault) found)

-- the rule with this number is kept, or there is none, or this is its first finding
abbrev pub FindsFirstAdvice : ℕ → Memory → PolicyValue → Option Advice → Type 0
FindsFirstAdvice number m q None = (a : Advice) → rule_number a.rule ≡ number → ¬ IsFirstAdvice m q a
FindsFirstAdvice number m q (Some a) = (rule_number a.rule ≡ number) × IsFirstAdvice m q a
