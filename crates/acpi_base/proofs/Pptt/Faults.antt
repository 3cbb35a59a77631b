-- The faults of a PPTT's entries and of their references: each can be decided, and there is none exactly if they are
-- valid.
use Rattle.std.proofs.Common.{◌≡◌, ℕ, ◌+◌, ◌<◌, ◌≤◌, List, [], ◌∷◌, zero, suc, length, Some, refl, inl, inr, arith}
use Rattle.std.specs.Prelude.{slice_index, slice_get}
use Rattle.std.proofs.lemmas.Bool.{cases_eq}
use Rattle.std.proofs.lemmas.Option.{slice_get_within, same_Some}
use Rattle.acpi_base.specs.Entries.{Stands}
use Rattle.acpi_base.specs.Chains.{Dangles, NoneDangles}
use Rattle.acpi_base.specs.Codes.{stage_of}
use Rattle.acpi_base.specs.Pptt.{PpttEntry, Node, Cache, Opaque, PpttContents, pptt_contents, HasOtherPpttLength, parent_of, resource_of, next_level_of, NamesParent, NamesNextLevel, IsCutPptt, AreReferencesValid, PpttFaultAt, PpttFault, ReferenceFault}
use Rattle.acpi_base.specs.declared.code.Code.{Code}
use Rattle.acpi_base.specs.declared.code.Code.TheVariants as code
use Rattle.acpi_base.specs.declared.stage.Stage.TheVariants as stage
use Rattle.acpi_base.proofs.Chains.{IsNaming, names_decided}
use Rattle.acpi_base.proofs.Faults.Deciding.{Decided, decided_as, both, all3, same, differs, at_most, negated, is_some_number}
use Rattle.acpi_base.proofs.Options.{cases_Option, none_and_some}
use Rattle.acpi_base.proofs.Pptt.Places.{inside, resource_decided, naming}
use Rattle.acpi_base.proofs.EntryOffsets.{cut_inside, entries_bounded, stands_with_decided}

-- ---- entries

other_length : (e : PpttEntry) → Decided (HasOtherPpttLength e)
other_length (Opaque e) = at_most (slice_index e 0) 1
other_length _ = inr (λ h. h)

cut_decided_at : (whole : List ℕ) (fault : Code) (at : ℕ) → Decided (PpttFaultAt (pptt_contents whole) fault at)
cut_decided_at whole code.PpttEntryCut at = is_some_number (pptt_contents whole).cut at
cut_decided_at whole code.PpttEntryLength at =
    stands_with_decided (pptt_contents whole).entries at HasOtherPpttLength other_length
cut_decided_at whole _ at = inr (λ fault. fault)

pub cut_decided : (whole : List ℕ) (fault : Code) (at other point : ℕ)
    → Decided (PpttFault (pptt_contents whole) fault at other point)
cut_decided whole fault at other point = all3 (cut_decided_at whole fault at) (same other 0) (same point 0)

pub cut_without_fault : (c : PpttContents)
    → ((fault : Code) (at other point : ℕ) → stage_of fault ≡ stage.Pptt → ¬ PpttFault c fault at other point)
    → IsCutPptt c
cut_without_fault c none =
    record {
      filled = elim (cases_Option c.cut) [
        | inl (at, is) ↦ absurd (none code.PpttEntryCut at 0 0 refl (is, refl, refl))
        | inr nothing ↦ nothing
      ];
      lengths = λ o e stands other. none code.PpttEntryLength o 0 0 refl ((e, stands, other), refl, refl);
    }

pub cut_excludes : (c : PpttContents) (fault : Code) (at other point : ℕ) → PpttFault c fault at other point
    → ¬ IsCutPptt c
cut_excludes c code.PpttEntryCut at other point (is, _, _) valid = none_and_some valid.filled is
cut_excludes c code.PpttEntryLength at other point ((e, stands, wrong), _, _) valid = valid.lengths at e stands wrong
cut_excludes c _ at other point fault valid = fault.0

cut_place_at : (whole : List ℕ) (fault : Code) (at : ℕ) → PpttFaultAt (pptt_contents whole) fault at → at < length whole
unfolding pptt_contents
cut_place_at whole code.PpttEntryCut at is = cut_inside 36 whole at is
cut_place_at whole code.PpttEntryLength at (e, stands, wrong) = inside whole at e stands
cut_place_at whole _ at fault = absurd fault

pub cut_place : (whole : List ℕ) (fault : Code) (at other point : ℕ)
    → PpttFault (pptt_contents whole) fault at other point
    → (at ≤ length whole) × (other ≤ length whole) × (point ≤ length whole)
cut_place whole fault at other point (wrong, no_other, no_point) =
    (omega (arith, cut_place_at whole fault at wrong), omega arith, omega arith)

-- ---- references

dangles_decided : (Names : ℕ → ℕ → Type 0) → IsNaming Names → (o p : ℕ) → Decided (Dangles Names o p)
dangles_decided Names naming o p =
    decided_as (λ h. record { names = h.0; some = h.1; nowhere = h.2 }) (λ h. (h.names, h.some, h.nowhere))
    (all3 (names_decided Names naming o p) (differs p 0) (negated (naming.decide p)))

none_dangles : (Names : ℕ → ℕ → Type 0) → IsNaming Names → ((o p : ℕ) → ¬ Dangles Names o p) → NoneDangles Names
none_dangles Names naming none o p names =
    elim (cases_eq p 0) [
      | inl none ↦ inl none
      | inr some ↦ elim (naming.decide p) [
        | inl there ↦ inr there
        | inr nowhere ↦
            absurd (none o p (record { names = names; some = some; nowhere = nowhere }))
      ]
    ]

dangles_excludes : (Names : ℕ → ℕ → Type 0) (o p : ℕ) → Dangles Names o p → ¬ NoneDangles Names
dangles_excludes Names o p dangles valid =
    elim (valid o p dangles.names) [ inl none ↦ dangles.some none | inr there ↦ dangles.nowhere there ]

pub references_decided : (whole : List ℕ) (fault : Code) (at other point : ℕ)
    → Decided (ReferenceFault (pptt_contents whole) fault at other point)
references_decided whole code.DanglingParent at other point =
    both (dangles_decided (NamesParent (pptt_contents whole)) (naming whole parent_of) at other) (same point 0)
references_decided whole code.DanglingResource at other point =
    both (names_decided _ (naming whole (resource_of other)) at point) (negated (resource_decided whole point))
references_decided whole code.DanglingCache at other point =
    both (dangles_decided (NamesNextLevel (pptt_contents whole)) (naming whole next_level_of) at other) (same point 0)
references_decided whole _ at other point = inr (λ fault. fault)

pub references_without_fault : (whole : List ℕ)
    → ((fault : Code) (at other point : ℕ) → stage_of fault ≡ stage.References
    → ¬ ReferenceFault (pptt_contents whole) fault at other point)
    → AreReferencesValid (pptt_contents whole)
references_without_fault whole none =
    let c = pptt_contents whole in
    record {
      parents = none_dangles (NamesParent c) (naming whole parent_of)
          (λ o p dangles. none code.DanglingParent o p 0 refl (dangles, refl));
      resources = λ o j r names. elim (resource_decided whole r) [
        | inl there ↦ there
        | inr nowhere ↦
            absurd (none code.DanglingResource o j r refl (names, nowhere))
      ];
      next_levels =
          none_dangles (NamesNextLevel c) (naming whole next_level_of)
          (λ o p dangles. none code.DanglingCache o p 0 refl (dangles, refl));
    }

pub references_excludes : (c : PpttContents) (fault : Code) (at other point : ℕ) → ReferenceFault c fault at other point
    → ¬ AreReferencesValid c
references_excludes c code.DanglingParent at other point (dangles, _) valid =
    dangles_excludes (NamesParent c) at other dangles valid.parents
references_excludes c code.DanglingResource at other point (names, nowhere) valid =
    nowhere (valid.resources at other point names)
references_excludes c code.DanglingCache at other point (dangles, _) valid =
    dangles_excludes (NamesNextLevel c) at other dangles valid.next_levels
references_excludes c _ at other point fault valid = fault

-- ---- the bounds of their numbers

total : List ℕ → ℕ
total [] = 0
total (x ∷ xs) = x + total xs

in_total : (xs : List ℕ) (j r : ℕ) → slice_get xs j ≡ Some r → r ≤ total xs
unfolding total
in_total [] j r is = absurd cc
in_total (x ∷ xs) zero r is = grind arith
in_total (x ∷ xs) (suc j) r is = omega (arith, in_total xs j r is)

-- the largest number that an entry names
reach : PpttEntry → ℕ
reach (Node v) = v.parent + (length v.resources + total v.resources)
reach (Cache v) = v.next_level
reach (Opaque e) = 0

parent_in : (e : PpttEntry) (p : ℕ) → parent_of e ≡ Some p → p ≤ reach e
unfolding reach
parent_in (Node v) p is = omega (arith, same_Some v.parent p is)
parent_in _ p is = absurd cc

resource_in : (e : PpttEntry) (j r : ℕ) → resource_of j e ≡ Some r → (j < reach e + 1) × (r ≤ reach e)
unfolding reach
resource_in (Node v) j r is =
    (omega (arith, slice_get_within v.resources j r is), omega (arith, in_total v.resources j r is))
resource_in _ j r is = absurd cc

next_level_in : (e : PpttEntry) (p : ℕ) → next_level_of e ≡ Some p → p ≤ reach e
unfolding reach
next_level_in (Cache v) p is = omega (arith, same_Some v.next_level p is)
next_level_in _ p is = absurd cc

pub references_bounded : (c : PpttContents) → (most : ℕ)
    × ((fault : Code) (at other point : ℕ) → ReferenceFault c fault at other point
    → (at < most) × (other < most) × (point < most))
references_bounded c = (all.0 + 1, place)
  where
    all : (most : ℕ) × ((o : ℕ) (e : PpttEntry) → Stands c.entries o e → (o < most) × (reach e < most))
    all = entries_bounded c.entries reach

    place : (fault : Code) (at other point : ℕ) → ReferenceFault c fault at other point
        → (at < all.0 + 1) × (other < all.0 + 1) × (point < all.0 + 1)
    place code.DanglingParent at other point (dangles, nothing) =
        let (e, stands, is) = dangles.names in
        let (here, far) = all.1 at e stands in
        (omega arith, omega (arith, parent_in e other is), omega arith)
    place code.DanglingResource at other point ((e, stands, is), nowhere) =
        let (here, far) = all.1 at e stands in
        let own = resource_in e other point is in
        (omega arith, omega (arith, own.0), omega (arith, own.1))
    place code.DanglingCache at other point (dangles, nothing) =
        let (e, stands, is) = dangles.names in
        let (here, far) = all.1 at e stands in
        (omega arith, omega (arith, next_level_in e other is), omega arith)
    place _ at other point fault = absurd fault
