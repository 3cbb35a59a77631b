-- A code or a stage is the only one with its number.
use Rattle.std.proofs.Common.{◌≡◌, ◌+◌, ◌-◌, ◌<◌, ◌≤◌, ℕ, List, [], ◌∷◌, length, Some, refl, sym, ap, ◌∙◌, inl, inr, arith}
use Rattle.std.specs.Prelude.{◌⊎◌}
use Rattle.std.specs.List.{slice_get}
use Rattle.std.proofs.lemmas.Bool.{cases_eq}
use Rattle.std.proofs.lemmas.Option.{same_Some}
use Rattle.acpi_base.specs.Codes.{all_codes, code_number, stage_number}
use Rattle.acpi_base.specs.declared.code.Code.{Code}
use Rattle.acpi_base.specs.declared.code.Code.TheVariants as code
use Rattle.acpi_base.specs.declared.stage.Stage.{Stage}
use Rattle.acpi_base.specs.declared.stage.Stage.TheVariants as stage
use Rattle.acpi_base.proofs.Options.{cases_Option, none_and_some}

-- the codes by their numbers; at 0, which is no code's number, is the first code
abbrev pub codes_by_number : List Code
codes_by_number = code.RsdpOut ∷ all_codes

-- the stages by their numbers; at 0, which is no stage's number, is the first stage
abbrev pub stages_by_number : List Stage
stages_by_number =
    stage.Rsdp ∷
    stage.Rsdp ∷ stage.Root ∷ stage.Tables ∷ stage.Fadt ∷ stage.Facs ∷ stage.Madt ∷
    stage.Interrupts ∷ stage.Overrides ∷ stage.Srat ∷ stage.Ranges ∷ stage.Slit ∷ stage.Pptt ∷
    stage.References ∷ stage.Parents ∷ stage.Caches ∷ stage.Domains ∷ stage.Served ∷ stage.Leaves ∷ []

pub code_at_number : (c : Code) → slice_get codes_by_number (code_number c) ≡ Some c
code_at_number code.RsdpOut = refl
code_at_number _ = refl

pub stage_at_number : (s : Stage) → slice_get stages_by_number (stage_number s) ≡ Some s
stage_at_number stage.Rsdp = refl
stage_at_number _ = refl

pub same_code : (c d : Code) → code_number c ≡ code_number d → c ≡ d
same_code c d e = grind (arith, same_Some, code_at_number c, code_at_number d)

pub same_stage : (s t : Stage) → stage_number s ≡ stage_number t → s ≡ t
same_stage s t e = grind (arith, same_Some, stage_at_number s, stage_at_number t)

pub code_below : (c : Code) → code_number c ≤ length all_codes
code_below code.RsdpOut = omega arith
code_below _ = omega arith

pub code_from : (c : Code) → 1 ≤ code_number c
code_from code.RsdpOut = omega arith
code_from _ = omega arith

pub stage_from_1 : (s : Stage) → 0 < stage_number s
stage_from_1 stage.Rsdp = omega arith
stage_from_1 _ = omega arith

with_number : {X : Type 0} (number : X → ℕ) (rows : List X) → ((x : X) → slice_get rows (number x) ≡ Some x) → (n : ℕ)
    → ((x : X) × (number x ≡ n)) ⊎ ((x : X) → number x ≡ n → ⊥)
with_number number rows at n =
    elim (cases_Option (slice_get rows n)) [
      | inr none ↦ inr (λ x is. none_and_some (ap (slice_get rows) is ∙ none) (at x))
      | inl (x, there) ↦
          elim (cases_eq (number x) n) [
            | inl is ↦ inl (x, is)
            | inr other ↦
                inr (λ y is. other (ap number (same_Some x y (sym there ∙ ap (slice_get rows) (sym is) ∙ at y)) ∙ is))
          ]
    ]

pub code_with_number : (n : ℕ) → ((c : Code) × (code_number c ≡ n)) ⊎ ((c : Code) → code_number c ≡ n → ⊥)
code_with_number = with_number code_number codes_by_number code_at_number

pub stage_with_number : (n : ℕ) → ((s : Stage) × (stage_number s ≡ n)) ⊎ ((s : Stage) → stage_number s ≡ n → ⊥)
stage_with_number = with_number stage_number stages_by_number stage_at_number
