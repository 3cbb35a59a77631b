-- The faults of the FADT: each can be decided, and there is none exactly if the FADT is valid.
use Rattle.std.proofs.Common.{◌≡◌, ◌≤◌, ℕ, List, length, Some, None, true, false, refl, ap, inl, inr, arith}
use Rattle.std.specs.Prelude.{◌⊎◌, ◌%◌}
use Rattle.std.proofs.lemmas.Bool.{cases_eq}
use Rattle.acpi_base.specs.Memory.{Memory}
use Rattle.acpi_base.specs.Number.{field}
use Rattle.acpi_base.specs.Fadt.{is_reduced, has_reset, gas_at, HasBlockLengths, IsResetRegister, IsValidFadtTable, IsValidFadt, FadtTableFault, FadtFault}
use Rattle.acpi_base.specs.Listed.{fadt_signature}
use Rattle.acpi_base.specs.Codes.{code_number, stage_of}
use Rattle.acpi_base.specs.declared.code.Code.{Code}
use Rattle.acpi_base.specs.declared.code.Code.TheVariants as code
use Rattle.acpi_base.specs.declared.stage.Stage.TheVariants as stage
use Rattle.acpi_base.proofs.Faults.Deciding.{Decided, decided_as, both, all4, all5, either, same, below, at_most, differs, is_true, is_false, not_below, not_other}
use Rattle.acpi_base.proofs.Faults.Numbers.{same_code}
use Rattle.acpi_base.proofs.Tables.Listed.{IsListedOrNone, one_listed, none_and_listed}

-- ---- of a FADT's bytes

table_decided : (whole : List ℕ) (c : Code) (at : ℕ) → Decided (FadtTableFault whole c at)
table_decided whole code.FadtShort at = both (below (length whole) 116) (same at 0)
table_decided whole code.PmEventLength at =
    all4 (at_most 116 (length whole)) (is_false (is_reduced whole)) (below (field whole 88 1) 4) (same at 88)
table_decided whole code.PmControlLength at =
    all4 (at_most 116 (length whole)) (is_false (is_reduced whole)) (below (field whole 89 1) 2) (same at 89)
table_decided whole code.PmTimerLength at =
    all5 (at_most 116 (length whole)) (is_false (is_reduced whole)) (differs (field whole 91 1) 0)
    (differs (field whole 91 1) 4) (same at 91)
table_decided whole code.GpeLength at =
    all4 (at_most 116 (length whole)) (is_false (is_reduced whole)) (either (same at 92) (same at 93))
    (differs (field whole at 1 % 2) 0)
table_decided whole code.ResetRegister at =
    let gas = gas_at whole 116 in
    let wrong = either (below 2 gas.space) (either (differs gas.bit_width 8) (differs gas.bit_offset 0)) in
    all5 (at_most 116 (length whole)) (is_true (has_reset whole)) (at_most 129 (length whole)) wrong (same at 116)
table_decided whole _ at = inr (λ fault. fault)

table_place : (whole : List ℕ) (c : Code) (at : ℕ) → FadtTableFault whole c at → at ≤ 116
table_place whole code.FadtShort at (short, place) = omega arith
table_place whole code.PmEventLength at (long, full, wrong, place) = omega arith
table_place whole code.PmControlLength at (long, full, wrong, place) = omega arith
table_place whole code.PmTimerLength at (long, full, some, wrong, place) = omega arith
table_place whole code.GpeLength at (long, full, place, odd) = omega (arith, place)
table_place whole code.ResetRegister at (long, with, more, wrong, place) = omega arith
table_place whole _ at fault = absurd fault

table_without_fault : (whole : List ℕ) → ((c : Code) (at : ℕ) → stage_of c ≡ stage.Fadt → ¬ FadtTableFault whole c at)
    → IsValidFadtTable whole
table_without_fault whole none = record { long = long; blocks = blocks; reset = reset }
  where
    long : 116 ≤ length whole
    long = not_below (length whole) 116 (λ short. none code.FadtShort 0 refl (short, refl))

    timer : is_reduced whole ≡ false → (field whole 91 1 ≡ 0) ⊎ (field whole 91 1 ≡ 4)
    timer full =
        elim (cases_eq (field whole 91 1) 0) [
          | inl zero ↦ inl zero
          | inr some ↦ inr (not_other (field whole 91 1) 4
              (λ other. none code.PmTimerLength 91 refl (long, full, some, other, refl)))
        ]

    blocks : is_reduced whole ≡ false → HasBlockLengths whole
    blocks full =
        record {
          event = not_below (field whole 88 1) 4 (λ short. none code.PmEventLength 88 refl (long, full, short, refl));
          control = not_below (field whole 89 1) 2
              (λ short. none code.PmControlLength 89 refl (long, full, short, refl));
          timer = timer full;
          gpe0 = not_other (field whole 92 1 % 2) 0 (λ odd. none code.GpeLength 92 refl (long, full, inl refl, odd));
          gpe1 = not_other (field whole 93 1 % 2) 0 (λ odd. none code.GpeLength 93 refl (long, full, inr refl, odd));
        }

    reset : has_reset whole ≡ true → 129 ≤ length whole → IsResetRegister (gas_at whole 116)
    reset with more =
        let gas = gas_at whole 116 in
        record {
          space = not_below 2 gas.space (λ wrong. none code.ResetRegister 116 refl (long, with, more, inl wrong, refl));
          width = not_other gas.bit_width 8
              (λ wrong. none code.ResetRegister 116 refl (long, with, more, inr (inl wrong), refl));
          offset = not_other gas.bit_offset 0
              (λ wrong. none code.ResetRegister 116 refl (long, with, more, inr (inr wrong), refl));
        }

table_excludes : (whole : List ℕ) (c : Code) (at : ℕ) → FadtTableFault whole c at → ¬ IsValidFadtTable whole
table_excludes whole code.FadtShort at (short, place) valid = omega (arith, valid.long)
table_excludes whole code.PmEventLength at (long, full, short, place) valid = omega (arith, (valid.blocks full).event)
table_excludes whole code.PmControlLength at (long, full, short, place) valid =
    omega (arith, (valid.blocks full).control)
table_excludes whole code.PmTimerLength at (long, full, some, wrong, place) valid =
    grind (arith, (valid.blocks full).timer)
table_excludes whole code.GpeLength at (long, full, place, odd) valid =
    grind (arith, (valid.blocks full).gpe0, (valid.blocks full).gpe1)
table_excludes whole code.ResetRegister at (long, with, more, wrong, place) valid =
    let is = valid.reset with more in
    grind (arith, is.space, is.width, is.offset)
table_excludes whole _ at fault valid = absurd fault

-- ---- of a set's FADT

pub place : (m : Memory) (p : ℕ) (c : Code) (at : ℕ) → FadtFault m p c at → at ≤ 116
place m p c at (inl (none, is, zero)) = omega arith
place m p c at (inr (whole, fadt, fault)) = table_place whole c at fault

pub decided : (m : Memory) (p : ℕ) (fadt : IsListedOrNone m p fadt_signature) (c : Code) (at : ℕ)
    → Decided (FadtFault m p c at)
decided m p (None, none) c at =
    decided_as (λ h. inl (none, same_code c code.NoFadt h.0, h.1))
    (λ h. elim h [ inl f ↦ (ap code_number f.1, f.2) | inr f ↦ absurd (none_and_listed none f.1) ])
    (both (same (code_number c) (code_number code.NoFadt)) (same at 0))
decided m p (Some whole, fadt) c at =
    decided_as (λ h. inr (whole, fadt, h))
    (λ h. elim h [
      | inl f ↦ absurd (none_and_listed f.0 fadt)
      | inr f ↦
          rw (one_listed m p fadt_signature f.0 whole f.1 fadt) at f.2
    ])
    (table_decided whole c at)

pub valid_without_fault : (m : Memory) (p : ℕ) (fadt : IsListedOrNone m p fadt_signature)
    → ((c : Code) (at : ℕ) → stage_of c ≡ stage.Fadt → ¬ FadtFault m p c at) → IsValidFadt m p
valid_without_fault m p (None, lists_none) none = absurd (none code.NoFadt 0 refl (inl (lists_none, refl, refl)))
valid_without_fault m p (Some whole, fadt) none =
    record {
      whole = whole;
      fadt = fadt;
      valid = table_without_fault whole (λ c at own fault. none c at own (inr (whole, fadt, fault)));
    }

pub excludes : (m : Memory) (p : ℕ) (c : Code) (at : ℕ) → FadtFault m p c at → ¬ IsValidFadt m p
excludes m p c at (inl (none, is, zero)) valid = none_and_listed none valid.fadt
excludes m p c at (inr (whole, fadt, fault)) valid =
    table_excludes valid.whole c at (rw (one_listed m p fadt_signature whole valid.whole fadt valid.fadt) at fault)
    valid.valid
