-- A pass over the references of a PPTT's entries: it stops at the first fault, and finds none if all that they name is
-- present.
use Rattle.std.proofs.Common.{◌≡◌, ℕ, List, [], ◌∷◌, subst, inl, inr, arith}
use Rattle.acpi_base.specs.Entries.{PlacedEntry, Stands}
use Rattle.acpi_base.specs.Faults.{NotAfter}
use Rattle.acpi_base.specs.Pptt.{PpttEntry, PpttContents, AreReferencesValid, ReferenceFault}
use Rattle.acpi_base.specs.declared.code.Code.{Code}
use Rattle.acpi_base.specs.declared.code.Code.TheVariants as code
use Rattle.acpi_base.specs.declared.stage.Stage.TheVariants as stage
use Rattle.acpi_base.specs.declared.witness.Witness.{Witness}
use Rattle.acpi_check.specs.TableResults.{IsFirstOfTable}
use Rattle.acpi_check.specs.EntryPlaces.{ArePlaces, NamesPlaces, EntryReferenceFault, IsFirstReference}
use Rattle.acpi_check.specs.declared.places.Places.{Places}
use Rattle.acpi_check.proofs.EntryPasses.Passes.{HasPassed, before_or_behind, next_stands, all_passed}

-- ---- a fault of the table is one of an entry

of_entry : (c : PpttContents) (places : Places) → ArePlaces c places
    → (e : PpttEntry) (fault : Code) (at other point : ℕ) → Stands c.entries at e
    → EntryReferenceFault places e fault other point → ReferenceFault c fault at other point
of_entry c places are e code.DanglingParent at other point stands (is, some, nowhere, zero) =
    (record { names = (e, stands, is); some = some; nowhere = λ there. nowhere ((are.nodes other).1 there) }, zero)
of_entry c places are e code.DanglingResource at other point stands (is, nowhere) =
    ((e, stands, is), λ there. nowhere ((are.resources point).1 there))
of_entry c places are e code.DanglingCache at other point stands (is, some, nowhere, zero) =
    (record { names = (e, stands, is); some = some; nowhere = λ there. nowhere ((are.caches other).1 there) }, zero)
of_entry c places are e _ at other point stands wrong = absurd wrong

entry_of : (c : PpttContents) (places : Places) → ArePlaces c places → (fault : Code) (at other point : ℕ)
    → ReferenceFault c fault at other point → (e : PpttEntry) × Stands c.entries at e
    × EntryReferenceFault places e fault other point
entry_of c places are code.DanglingParent at other point (dangles, zero) =
    let (e, stands, is) = dangles.names in
    (e, stands, (is, dangles.some, λ there. dangles.nowhere ((are.nodes other).0 there), zero))
entry_of c places are code.DanglingResource at other point ((e, stands, is), nowhere) =
    (e, stands, (is, λ there. nowhere ((are.resources point).0 there)))
entry_of c places are code.DanglingCache at other point (dangles, zero) =
    let (e, stands, is) = dangles.names in
    (e, stands, (is, dangles.some, λ there. dangles.nowhere ((are.caches other).0 there), zero))
entry_of c places are _ at other point wrong = absurd wrong

excludes : (places : Places) (e : PpttEntry) (fault : Code) (other point : ℕ)
    → EntryReferenceFault places e fault other point → ¬ NamesPlaces places e
excludes places e code.DanglingParent other point (is, some, nowhere, _) valid =
    elim (valid.parent other is) [ inl zero ↦ some zero | inr there ↦ nowhere there ]
excludes places e code.DanglingResource other point (is, nowhere) valid = nowhere (valid.resource other point is)
excludes places e code.DanglingCache other point (is, some, nowhere, _) valid =
    elim (valid.next_level other is) [ inl zero ↦ some zero | inr there ↦ nowhere there ]
excludes places e _ other point wrong valid = wrong

-- ---- the pass

-- the pass has these entries left, and all that those before them name is present
abbrev pub IsAt : Places → PpttContents → List (PlacedEntry PpttEntry) → Type 0
IsAt places pptt left = HasPassed pptt.entries left (λ o e. NamesPlaces places e)

-- the pass stops at the first fault
pub stops : (places : Places) (pptt : PpttContents) → ArePlaces pptt places
    → (s : PlacedEntry PpttEntry) (left : List (PlacedEntry PpttEntry)) → IsAt places pptt (s ∷ left)
    → (w : Witness) → w.at ≡ s.offset → IsFirstReference places s.entry w
    → IsFirstOfTable stage.References (ReferenceFault pptt) w
stops places pptt are s left here w place first =
    record {
      own = first.own;
      fault = of_entry pptt places are s.entry w.code w.at w.other w.point (rw place (next_stands here)) first.fault;
      least = least;
    }
  where
    least : (v : Witness) → ReferenceFault pptt v.code v.at v.other v.point → NotAfter w v
    least v wrong =
        let (e, stands, own) = entry_of pptt places are v.code v.at v.other v.point wrong in
        elim (before_or_behind here v.at e stands) [
          | inl (_, valid) ↦ absurd (excludes places e v.code v.other v.point own valid)
          | inr (inl (same, entry)) ↦ first.least v (omega arith)
              (subst (λ (x : PpttEntry). EntryReferenceFault places x v.code v.other v.point) entry own)
          | inr (inr behind) ↦ inl (omega arith)
        ]

pub ends_valid : (places : Places) (pptt : PpttContents) → ArePlaces pptt places → IsAt places pptt []
    → AreReferencesValid pptt
ends_valid places pptt are here =
    record {
      parents = λ o p (e, stands, is). elim ((all_passed here o e stands).parent p is) [
        | inl zero ↦
            inl zero
        | inr there ↦ inr ((are.nodes p).0 there)
      ];
      resources = λ o j r (e, stands, is). (are.resources r).0 ((all_passed here o e stands).resource j r is);
      next_levels =
          λ o p (e, stands, is). elim ((all_passed here o e stands).next_level p is) [
            | inl zero ↦ inl zero
            | inr there ↦
                inr ((are.caches p).0 there)
          ];
    }
