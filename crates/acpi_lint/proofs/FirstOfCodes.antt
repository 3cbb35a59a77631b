-- The lowest place of a code is its first fault.
use Rattle.std.proofs.Common.{◌≡◌, ◌≢◌, ◌⊎◌, Option, Some, None, Result, Ok, Err, refl, sym, ap, ◌∙◌, subst, inl, inr}
use Rattle.std.specs.Prelude.{IfOk}
use Rattle.std.proofs.lemmas.Option.{none-some, same_Some}
use Rattle.acpi_base.specs.Codes.{code_number, stage_number, stage_of}
use Rattle.acpi_base.specs.Memory.{Memory}
use Rattle.acpi_base.specs.Policy.{PolicyValue}
use Rattle.acpi_base.specs.Faults.{Fault, FaultCondition, NotAfter}
use Rattle.acpi_base.specs.FirstOfCode.{IsLeastOfCode}
use Rattle.acpi_base.specs.declared.code.Code.{Code}
use Rattle.acpi_base.specs.declared.code.Code.TheVariants as code
use Rattle.acpi_base.specs.declared.stage.Stage.{Stage}
use Rattle.acpi_base.specs.declared.stage.Stage.TheVariants as stage
use Rattle.acpi_base.specs.declared.witness.Witness.{Witness}
use Rattle.acpi_rules.specs.Places.{IsNotAfter, FindsLeast}
use Rattle.acpi_lint.specs.StageFaults.{IsFaultOfStage, FindsFirstAt, fault_at}
use Rattle.acpi_rules.specs.declared.place.Place.{Place}

-- the stage is not one of the two of overlaps, whose faults have their own order
abbrev pub IsPlain : Stage → Type 0
IsPlain s = (stage_number s ≢ 7) × (stage_number s ≢ 10)

least_of_plain : (m : Memory) (q : PolicyValue) (s : Stage) (c : Code) (w : Witness) → stage_of c ≡ s → IsPlain s
    → ((v : Witness) → v.code ≡ c → Fault m q v → NotAfter w v) → IsLeastOfCode c m q w
least_of_plain m q s code.GsiClash w is plain least = absurd (plain.0 (ap stage_number (sym is)))
least_of_plain m q s code.Overlap w is plain least = absurd (plain.1 (ap stage_number (sym is)))
least_of_plain m q s c w is plain least = least

not_after : (p : Place) (c : Code) (v : Witness) → v.code ≡ c → IsNotAfter p v.at v.other v.point
    → NotAfter (fault_at c p) v
not_after p c v same (inl before) = inl before
not_after p c v same (inr (at, rest)) = inr (at, inr (ap code_number (sym same), rest))

condition : (m : Memory) (q : PolicyValue) (s : Stage) (c : Code) (w : Witness) → stage_of c ≡ s → w.code ≡ c
    → Fault m q w → IsFaultOfStage s c m q w.at w.other w.point
condition m q s c w is same fault =
    subst (λ (t : Stage). FaultCondition t m q (record { code = c; at = w.at; other = w.other; point = w.point })) is
    (subst (λ (d : Code). Fault m q (record { code = d; at = w.at; other = w.other; point = w.point })) same
    fault).holds

pub first_of_stage : (m : Memory) (q : PolicyValue) (s : Stage) (c : Code) → stage_of c ≡ s → IsPlain s
    → (found : Option Place) → FindsLeast (IsFaultOfStage s c m q) found → FindsFirstAt c m q found
first_of_stage m q s c is plain None none = λ w same fault.
    none w.at w.other w.point (condition m q s c w is same fault)
first_of_stage m q s c is plain (Some p) first = (
  refl,
  record {
    fault = record {
      own = refl;
      holds = subst (λ (t : Stage). FaultCondition t m q (fault_at c p)) (sym is) first.here;
    };
    least = least_of_plain m q s c (fault_at c p) is plain
        (λ v same fault. not_after p c v same (first.least v.at v.other v.point (condition m q s c v is same fault)));
  },
)

pub first_of_result : (m : Memory) (q : PolicyValue) (s : Stage) (c : Code) {X : Type 0} → stage_of c ≡ s → IsPlain s
    → (r : Result (Option Place) X) → IfOk r (FindsLeast (IsFaultOfStage s c m q)) → IfOk r (FindsFirstAt c m q)
first_of_result m q s c is plain (Ok found) first = first_of_stage m q s c is plain found first
first_of_result m q s c is plain (Err e) first = tt

-- ---- stages that have one code

-- the code of such a stage
abbrev pub only_code : Stage → Option Code
only_code stage.Interrupts = Some code.GsiClash
only_code stage.Overrides = Some code.OverrideClash
only_code stage.Ranges = Some code.Overlap
only_code stage.Parents = Some code.ParentCycle
only_code stage.Caches = Some code.CacheCycle
only_code stage.Domains = Some code.TwoDomains
only_code stage.Served = Some code.GsiNowhere
only_code stage.Leaves = Some code.LeafUnknown
only_code _ = None

only_or_none : (c : Code) → (only_code (stage_of c) ≡ Some c) ⊎ (only_code (stage_of c) ≡ None)
only_or_none code.GsiClash = inl refl
only_or_none code.OverrideClash = inl refl
only_or_none code.Overlap = inl refl
only_or_none code.ParentCycle = inl refl
only_or_none code.CacheCycle = inl refl
only_or_none code.TwoDomains = inl refl
only_or_none code.GsiNowhere = inl refl
only_or_none code.LeafUnknown = inl refl
only_or_none _ = inr refl

-- a code of such a stage is that one
pub alone : (s : Stage) (only c : Code) → only_code s ≡ Some only → stage_of c ≡ s → c ≡ only
alone s only c has is = elim (only_or_none c) [
  | inl own ↦ same_Some c only (sym own ∙ ap only_code is ∙ has)
  | inr none ↦ absurd (none-some only (sym none ∙ ap only_code is ∙ has))
]
