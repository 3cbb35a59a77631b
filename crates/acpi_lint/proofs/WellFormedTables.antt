-- A MADT is well-formed exactly if it has no fault of the cut, and none of an entry's length.
use Rattle.std.proofs.Common.{◌≡◌, ℕ, List, Option, Some, refl, sym, ◌∙◌, inl, inr}
use Rattle.std.specs.Prelude.{◌↔◌}
use Rattle.std.proofs.lemmas.Option.{none-some}
use Rattle.acpi_base.proofs.Options.{cases_Option}
use Rattle.acpi_base.specs.Entries.{PlacedEntry, StandsWith, AreUnused}
use Rattle.acpi_base.specs.Madt as madt
use Rattle.acpi_base.specs.Policy.{PolicyValue}
use Rattle.acpi_base.specs.declared.code.Code.TheVariants as code
use Rattle.acpi_rules.specs.Places.{HasNone}
use Rattle.acpi_lint.specs.Rules.WellFormed.{IsWellFormed, IsWellFormedMadt, HasOtherMadtLength}

module _ {E : Type 0} (IsOther IsWrong : E → Type 0) (to : (e : E) → IsOther e → IsWrong e)
    (from : (e : E) → IsWrong e → IsOther e) (entries : List (PlacedEntry E)) (cut : Option ℕ) where
  -- the two faults
  abbrev HasNoneOfTwo : Type 0
  HasNoneOfTwo =
      HasNone (λ at other point. (cut ≡ Some at) × AreUnused other point)
      × HasNone (λ at other point. StandsWith entries at IsWrong × AreUnused other point)

  well_formed : HasNoneOfTwo ↔ IsWellFormed IsOther entries cut
  well_formed = (
    λ (no_cut, none). (
      elim (cases_Option cut) [
        | inr is ↦ is
        | inl (at, is) ↦ absurd (no_cut at 0 0 (is, (refl, refl)))
      ],
      λ o (e, stands, other). none o 0 0 ((e, stands, to e other), (refl, refl)),
    ),
    λ (no_cut, none). (
      λ at other point (is, _). none-some at (sym no_cut ∙ is),
      λ at other point ((e, stands, wrong), _). none at (e, stands, from e wrong),
    ),
  )

madt_to : (q : PolicyValue) (e : madt.MadtEntry) → HasOtherMadtLength e
    → madt.MadtEntryFault q code.MadtEntryLength e
madt_to q (madt.Opaque e) is = is
madt_to q _ is = absurd is

madt_from : (q : PolicyValue) (e : madt.MadtEntry) → madt.MadtEntryFault q code.MadtEntryLength e
    → HasOtherMadtLength e
madt_from q (madt.Opaque e) is = is
madt_from q _ is = absurd is

pub madt_well_formed : (q : PolicyValue) (c : madt.MadtContents)
    → (HasNone (madt.MadtFault q c code.MadtEntryCut) × HasNone (madt.MadtFault q c code.MadtEntryLength))
    ↔ IsWellFormedMadt c
madt_well_formed q c =
    well_formed HasOtherMadtLength (madt.MadtEntryFault q code.MadtEntryLength) (madt_to q) (madt_from q)
    c.entries c.cut
