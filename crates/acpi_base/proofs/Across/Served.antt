-- The fault of interrupt numbers that no I/O APIC serves: it can be decided, and there is none exactly if all are
-- served; the bounds of its numbers.
use Rattle.std.proofs.Common.{◌≡◌, ℕ, ◌+◌, ◌^◌, ◌<◌, List, length, refl, inl, inr, arith}
use Rattle.std.specs.Prelude.{slice_index}
use Rattle.acpi_base.specs.Entries.{Stands}
use Rattle.acpi_base.specs.Policy.{PolicyValue, inputs_of}
use Rattle.acpi_base.specs.Madt.{MadtEntry, IoApic, Override, NmiSource, MadtContents, madt_entry, madt_contents, ServesFrom, NamesGsi}
use Rattle.acpi_base.specs.Across.{IsIoApic, IsServed, AreNamedServed, ServedFault}
use Rattle.acpi_base.specs.Codes.{stage_of}
use Rattle.acpi_base.specs.declared.code.Code.{Code}
use Rattle.acpi_base.specs.declared.code.Code.TheVariants as code
use Rattle.acpi_base.specs.declared.stage.Stage.TheVariants as stage
use Rattle.acpi_base.proofs.Faults.Deciding.{Decided, decided_as, all3, all4, same, below, at_most, negated}
use Rattle.acpi_base.proofs.Images.PresentBytes.{field_below}
use Rattle.acpi_base.proofs.Madt.Faults.{inside}
use Rattle.acpi_base.proofs.EntryOffsets.{stands_with_decided, somewhere_decided, entries_bounded, said_with}

-- ---- decided, and what the fault excludes

io_apic_decided : (e : MadtEntry) → Decided (IsIoApic e)
io_apic_decided (IoApic v) = inl tt
io_apic_decided _ = inr (λ h. h)

names_decided : (g : ℕ) (e : MadtEntry) → Decided (NamesGsi g e)
names_decided g (Override v) = same v.gsi g
names_decided g (NmiSource v) = same v.gsi g
names_decided g _ = inr (λ h. h)

serves_decided : (q : PolicyValue) (g : ℕ) (e : MadtEntry) → Decided ((start : ℕ) × ServesFrom q start g e)
serves_decided q g (IoApic v) =
    decided_as (λ h. (v.gsi_base, h)) (λ h. (refl, omega (arith, h.1), omega (arith, h.1)))
    (all3 (same v.gsi_base v.gsi_base) (at_most v.gsi_base g) (below g (v.gsi_base + inputs_of q v.address)))
serves_decided q g _ = inr (λ h. h.1)

served_decided : (q : PolicyValue) (c : MadtContents) (g : ℕ) → Decided (IsServed q c g)
served_decided q c g =
    decided_as (λ h. (h.0, h.1.2.0, (h.1.0, h.1.1, h.1.2.1))) (λ h. (h.0, (h.2.0, h.2.1, (h.1, h.2.2))))
    (somewhere_decided c.entries (λ e. (start : ℕ) × ServesFrom q start g e) (serves_decided q g))

pub decided : (q : PolicyValue) (c : MadtContents) (fault : Code) (at other point : ℕ)
    → Decided (ServedFault q c fault at other point)
decided q c code.GsiNowhere at other point =
    all4 (somewhere_decided c.entries IsIoApic io_apic_decided)
    (stands_with_decided c.entries at (NamesGsi point) (names_decided point)) (negated (served_decided q c point))
    (same other 0)
decided q c _ at other point = inr (λ fault. fault)

pub named_served_without_fault : (q : PolicyValue) (c : MadtContents)
    → ((fault : Code) (at other point : ℕ) → stage_of fault ≡ stage.Served → ¬ ServedFault q c fault at other point)
    → AreNamedServed q c
named_served_without_fault q c none some o g names =
    elim (served_decided q c g) [
      | inl served ↦ served
      | inr nowhere ↦
          absurd (none code.GsiNowhere o 0 g refl (some, names, nowhere, refl))
    ]

pub excludes : (q : PolicyValue) (c : MadtContents) (fault : Code) (at other point : ℕ)
    → ServedFault q c fault at other point → ¬ AreNamedServed q c
excludes q c code.GsiNowhere at other point (some, names, nowhere, _) valid = nowhere (valid some at point names)
excludes q c _ at other point fault valid = fault

-- ---- the bounds of its numbers

-- the interrupt number that an entry names
gsi_of : MadtEntry → ℕ
gsi_of (Override v) = v.gsi
gsi_of (NmiSource v) = v.gsi
gsi_of _ = 0

named_is : (e : MadtEntry) (g : ℕ) → NamesGsi g e → gsi_of e ≡ g
unfolding gsi_of
named_is (Override v) g is = is
named_is (NmiSource v) g is = is
named_is _ g names = absurd names

pub bounded : (q : PolicyValue) (c : MadtContents) → (most : ℕ)
    × ((fault : Code) (at other point : ℕ) → ServedFault q c fault at other point
    → (at < most) × (other < most) × (point < most))
bounded q c = (all.0, place)
  where
    all : (most : ℕ) × ((o : ℕ) (e : MadtEntry) → Stands c.entries o e → (o < most) × (gsi_of e < most))
    all = entries_bounded c.entries gsi_of

    place : (fault : Code) (at other point : ℕ) → ServedFault q c fault at other point
        → (at < all.0) × (other < all.0) × (point < all.0)
    place code.GsiNowhere at other point (_, (e, stands, names), _, none) =
        let here = all.1 at e stands in
        (here.0, omega arith, omega (arith, named_is e point names))
    place _ at other point fault = absurd fault

gsi_fits : (e : List ℕ) → ((k : ℕ) → slice_index e k < 256) → gsi_of (madt_entry e) < 256 ^ 4
unfolding madt_entry gsi_of
gsi_fits e small = grind (arith, field_below e small 4 4)

pub fits : (q : PolicyValue) (whole : List ℕ) → ((k : ℕ) → slice_index whole k < 256)
    → (fault : Code) (at other point : ℕ) → ServedFault q (madt_contents whole) fault at other point
    → (at < length whole) × (other < length whole) × (point < 256 ^ 4)
unfolding madt_contents
fits q whole small code.GsiNowhere at other point (_, (e, stands, names), _, none) =
    let here = inside whole at e stands in
    let number = said_with madt_entry (λ x. gsi_of x < 256 ^ 4) gsi_fits 44 whole small at e stands in
    (here, omega arith, omega (arith, named_is e point names))
fits q whole small _ at other point fault = absurd fault
