-- Overrides that clash in a MADT: each fault can be decided, and there is none exactly if overrides agree.
use Rattle.std.proofs.Common.{◌≡◌, ℕ, ◌<◌, List, length, refl, sym, ◌∙◌, inl, inr, arith}
use Rattle.std.specs.Prelude.{◌≢◌, slice_index}
use Rattle.std.proofs.lemmas.Bool.{cases_order}
use Rattle.acpi_base.specs.Codes.{stage_of}
use Rattle.acpi_base.specs.Entries.{Stands}
use Rattle.acpi_base.specs.Madt.{MadtEntry, Override, MadtContents, madt_entry, madt_contents, Overrides, DoOverridesAgree, OverrideFault}
use Rattle.acpi_base.specs.declared.code.Code.{Code}
use Rattle.acpi_base.specs.declared.code.Code.TheVariants as code
use Rattle.acpi_base.specs.declared.stage.Stage.TheVariants as stage
use Rattle.acpi_base.proofs.Faults.Deciding.{Decided, decided_as, both, all3, same, below, differs, not_other}
use Rattle.acpi_base.proofs.Images.PresentBytes.{field_below}
use Rattle.acpi_base.proofs.Madt.Faults.{ones, inside}
use Rattle.acpi_base.proofs.EntryOffsets.{entries_bounded, said_with, stands_with_decided}

-- two entries give a Source two interrupt numbers
abbrev Disagree : ℕ → MadtEntry → MadtEntry → Type 0
Disagree source e d = (g h : ℕ) × Overrides source g e × Overrides source h d × (g ≢ h)

disagree_decided : (source : ℕ) (e d : MadtEntry) → Decided (Disagree source e d)
disagree_decided source (Override v) (Override u) =
    decided_as (λ h. (v.gsi, u.gsi, (h.0, refl), (h.1, refl), h.2))
    (λ h. (h.2.0, h.3.0, λ is. h.4 (sym h.2.1 ∙ is ∙ h.3.1)))
    (all3 (same v.source source) (same u.source source) (differs v.gsi u.gsi))
disagree_decided source (Override v) _ = inr (λ h. h.3)
disagree_decided source _ _ = inr (λ h. h.2)

pub decided : (whole : List ℕ) (fault : Code) (at other point : ℕ)
    → Decided (OverrideFault (madt_contents whole) fault at other point)
decided whole code.OverrideClash at other point =
    decided_as (λ h. (h.1.2.2.0, h.1.2.2.1, (h.1.0, h.1.1, h.1.2.2.2), (h.1.2.0, h.1.2.1, h.1.2.2.3), h.0, h.1.2.2.4))
    (λ h. (h.4, (h.2.0, h.2.1, (h.3.0, h.3.1, (h.0, h.1, h.2.2, h.3.2, h.5)))))
    (both (below other at) (stands_with_decided (madt_contents whole).entries at _
    (λ e. stands_with_decided (madt_contents whole).entries other (Disagree point e) (disagree_decided point e))))
decided whole _ at other point = inr (λ fault. fault)

one_number : (e : MadtEntry) (source g h : ℕ) → Overrides source g e → Overrides source h e → g ≡ h
one_number (Override v) source g h one other = sym one.1 ∙ other.1
one_number _ source g h one other = absurd one

pub agree_without_fault : (whole : List ℕ)
    → ((fault : Code) (at other point : ℕ) → stage_of fault ≡ stage.Overrides
    → ¬ OverrideFault (madt_contents whole) fault at other point)
    → DoOverridesAgree (madt_contents whole)
agree_without_fault whole none o p source g h one other =
    elim (cases_order o p) [
      | inl is ↦ (let (e, stands, says) = one in let (d, also, too) = other in
          grind (arith, ones whole o e d, one_number e source g h))
      | inr (inl less) ↦ not_other g h
          (λ differ. none code.OverrideClash p o source refl (h, g, other, one, less, λ is. differ (sym is)))
      | inr (inr more) ↦ not_other g h
          (λ differ. none code.OverrideClash o p source refl (g, h, one, other, more, differ))
    ]

pub excludes : (c : MadtContents) (fault : Code) (at other point : ℕ) → OverrideFault c fault at other point
    → ¬ DoOverridesAgree c
excludes c code.OverrideClash at other point (g, h, one, earlier, before, differ) agree =
    differ (agree at other point g h one earlier)
excludes c _ at other point fault agree = fault

-- ---- the bounds of a fault's numbers

source_of : MadtEntry → ℕ
source_of (Override v) = v.source
source_of _ = 0

source_is : (e : MadtEntry) (source g : ℕ) → Overrides source g e → source_of e ≡ source
unfolding source_of
source_is (Override v) source g here = here.0
source_is _ source g here = absurd here

pub bounded : (whole : List ℕ)
    → (most : ℕ) × ((fault : Code) (at other point : ℕ) → OverrideFault (madt_contents whole) fault at other point
    → (at < most) × (other < most) × (point < most))
bounded whole = (all.0, place)
  where
    all : (most : ℕ) × ((o : ℕ) (e : MadtEntry) → Stands (madt_contents whole).entries o e
        → (o < most) × (source_of e < most))
    all = entries_bounded (madt_contents whole).entries source_of

    place : (fault : Code) (at other point : ℕ) → OverrideFault (madt_contents whole) fault at other point
        → (at < all.0) × (other < all.0) × (point < all.0)
    place code.OverrideClash at other point (g, h, (e, stands, says), _, before, _) =
        let here = all.1 at e stands in
        (here.0, omega arith, omega (arith, source_is e point g says))
    place _ at other point fault = absurd fault

source_fits : (e : List ℕ) → ((k : ℕ) → slice_index e k < 256) → source_of (madt_entry e) < 256
unfolding source_of madt_entry
source_fits e small = grind (arith, field_below e small 3 1)

pub fits : (whole : List ℕ) → ((k : ℕ) → slice_index whole k < 256) → (fault : Code) (at other point : ℕ)
    → OverrideFault (madt_contents whole) fault at other point
    → (at < length whole) × (other < length whole) × (point < 256)
unfolding madt_contents
fits whole small code.OverrideClash at other point (g, h, (e, stands, says), (d, also, _), before, _) =
    let source = said_with madt_entry (λ x. source_of x < 256) source_fits 44 whole small at e stands in
    (inside whole at e stands, inside whole other d also, omega (arith, source_is e point g says))
fits whole small _ at other point fault = absurd fault
