-- The fault of leaves of the PPTT that no processor of the MADT has as its UID: it can be decided, and there is none
-- exactly if all leaves are known; the bounds of its numbers.
use Rattle.std.proofs.Common.{◌≡◌, ℕ, ◌^◌, ◌<◌, List, length, refl, subst, inl, inr, arith}
use Rattle.std.specs.Prelude.{slice_index}
use Rattle.acpi_base.specs.Number.{has_bit}
use Rattle.acpi_base.specs.Entries.{Stands}
use Rattle.acpi_base.specs.Madt.{MadtEntry, LocalApic, X2apic, Opaque, MadtContents, HasUid, IsWhollyTyped}
use Rattle.acpi_base.specs.Pptt.{PpttEntry, Node, PpttContents, pptt_entry, pptt_contents}
use Rattle.acpi_base.specs.Across.{IsLeaf, IsUid, AreLeavesKnown, LeafFault}
use Rattle.acpi_base.specs.Codes.{stage_of}
use Rattle.acpi_base.specs.declared.code.Code.{Code}
use Rattle.acpi_base.specs.declared.code.Code.TheVariants as code
use Rattle.acpi_base.specs.declared.stage.Stage.TheVariants as stage
use Rattle.acpi_base.proofs.Faults.Deciding.{Decided, decided_as, all3, all5, same, at_most, negated, is_true, is_none}
use Rattle.acpi_base.proofs.Images.PresentBytes.{field_below}
use Rattle.acpi_base.proofs.Pptt.Places.{inside}
use Rattle.acpi_base.proofs.EntryOffsets.{stands_with_decided, somewhere_decided, entries_bounded, said_with}

-- ---- decided, and what the fault excludes

opaque_decided : (e : MadtEntry) → Decided ((bytes : List ℕ) × (e ≡ Opaque bytes))
opaque_decided (Opaque bytes) = inl (bytes, refl)
opaque_decided _ = inr (λ h. let is = h.1 in absurd cc)

typed_decided : (c : MadtContents) → Decided (IsWhollyTyped c)
typed_decided c =
    decided_as (λ h. record { long = h.0; filled = h.1; typed = λ o e stands. h.2 (o, (Opaque e, stands, (e, refl))) })
    (λ h. (
      h.long,
      h.filled,
      λ (o, (e, stands, opaque)). h.typed o opaque.0
          (subst (Stands c.entries o) opaque.1 stands),
    ))
    (all3 (at_most 44 c.size) (is_none c.cut)
    (negated (somewhere_decided c.entries (λ e. (bytes : List ℕ) × (e ≡ Opaque bytes)) opaque_decided)))

has_uid_decided : (uid : ℕ) (e : MadtEntry) → Decided (HasUid uid e)
has_uid_decided uid (LocalApic v) = same v.uid uid
has_uid_decided uid (X2apic v) = same v.uid uid
has_uid_decided uid _ = inr (λ h. h)

uid_decided : (c : MadtContents) (uid : ℕ) → Decided (IsUid c uid)
uid_decided c uid = somewhere_decided c.entries (HasUid uid) (has_uid_decided uid)

leaf_decided : (id : ℕ) (e : PpttEntry) → Decided (IsLeaf id e)
leaf_decided id (Node v) = all3 (is_true (has_bit v.flags 1)) (is_true (has_bit v.flags 3)) (same v.id id)
leaf_decided id _ = inr (λ h. h)

pub decided : (madt : MadtContents) (pptt : PpttContents) (fault : Code) (at other point : ℕ)
    → Decided (LeafFault madt pptt fault at other point)
decided madt pptt code.LeafUnknown at other point =
    all5 (at_most 2 pptt.revision) (typed_decided madt)
    (stands_with_decided pptt.entries at (IsLeaf point) (leaf_decided point)) (negated (uid_decided madt point))
    (same other 0)
decided madt pptt _ at other point = inr (λ fault. fault)

pub leaves_known_without_fault : (madt : MadtContents) (pptt : PpttContents)
    → ((fault : Code) (at other point : ℕ) → stage_of fault ≡ stage.Leaves → ¬ LeafFault madt pptt fault at other point)
    → AreLeavesKnown madt pptt
leaves_known_without_fault madt pptt none recent typed o id leaf =
    elim (uid_decided madt id) [
      | inl known ↦ known
      | inr unknown ↦
          absurd (none code.LeafUnknown o 0 id refl (recent, typed, leaf, unknown, refl))
    ]

pub excludes : (madt : MadtContents) (pptt : PpttContents) (fault : Code) (at other point : ℕ)
    → LeafFault madt pptt fault at other point → ¬ AreLeavesKnown madt pptt
excludes madt pptt code.LeafUnknown at other point (recent, typed, leaf, unknown, _) valid =
    unknown (valid recent typed at point leaf)
excludes madt pptt _ at other point fault valid = fault

-- ---- the bounds of its numbers

-- the ID of a node
id_of : PpttEntry → ℕ
id_of (Node v) = v.id
id_of _ = 0

leaf_is : (e : PpttEntry) (id : ℕ) → IsLeaf id e → id_of e ≡ id
unfolding id_of
leaf_is (Node v) id leaf = leaf.2
leaf_is _ id leaf = absurd leaf

pub bounded : (madt : MadtContents) (pptt : PpttContents)
    → (most : ℕ) × ((fault : Code) (at other point : ℕ) → LeafFault madt pptt fault at other point
    → (at < most) × (other < most) × (point < most))
bounded madt pptt = (all.0, place)
  where
    all : (most : ℕ) × ((o : ℕ) (e : PpttEntry) → Stands pptt.entries o e → (o < most) × (id_of e < most))
    all = entries_bounded pptt.entries id_of

    place : (fault : Code) (at other point : ℕ) → LeafFault madt pptt fault at other point
        → (at < all.0) × (other < all.0) × (point < all.0)
    place code.LeafUnknown at other point (_, _, (e, stands, leaf), _, none) =
        let here = all.1 at e stands in
        (here.0, omega arith, omega (arith, leaf_is e point leaf))
    place _ at other point fault = absurd fault

id_fits : (e : List ℕ) → ((k : ℕ) → slice_index e k < 256) → id_of (pptt_entry e) < 256 ^ 4
unfolding pptt_entry id_of
id_fits e small = grind (arith, field_below e small 12 4)

pub fits : (madt : MadtContents) (whole : List ℕ) → ((k : ℕ) → slice_index whole k < 256)
    → (fault : Code) (at other point : ℕ) → LeafFault madt (pptt_contents whole) fault at other point
    → (at < length whole) × (other < length whole) × (point < 256 ^ 4)
unfolding pptt_contents
fits madt whole small code.LeafUnknown at other point (_, _, (e, stands, leaf), _, none) =
    let here = inside whole at e stands in
    let number = said_with pptt_entry (λ x. id_of x < 256 ^ 4) id_fits 36 whole small at e stands in
    (here, omega arith, omega (arith, leaf_is e point leaf))
fits madt whole small _ at other point fault = absurd fault
