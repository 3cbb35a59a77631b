-- The faults of a MADT's entries by themselves: each can be decided, and there is none exactly if the MADT is valid.
use Rattle.std.proofs.Common.{◌≡◌, ℕ, ◌+◌, ◌^◌, ◌<◌, ◌≤◌, List, length, refl, inl, inr, arith}
use Rattle.std.specs.Prelude.{Option, Some, None, slice_index, MatchOption}
use Rattle.std.proofs.lemmas.Bool.{cases_order}
use Rattle.acpi_base.specs.Policy.{PolicyValue, inputs_of}
use Rattle.acpi_base.specs.Codes.{stage_of}
use Rattle.acpi_base.specs.Entries.{Stands, StandsWith}
use Rattle.acpi_base.specs.Madt.{MadtEntry, IoApic, Override, AddressOverride, Opaque, madt_kinds, MadtContents, madt_entry, madt_contents, inti_flags, IsReservedInti, HasReservedInti, IsValidMadtEntry, IsAddressOverride, IsValidMadt, MadtEntryFault, MadtFault}
use Rattle.acpi_base.specs.declared.code.Code.{Code}
use Rattle.acpi_base.specs.declared.code.Code.TheVariants as code
use Rattle.acpi_base.specs.declared.stage.Stage.TheVariants as stage
use Rattle.acpi_base.proofs.Faults.Deciding.{Decided, both, all3, all4, either, same, below, differs, is_some_number, not_below, not_other}
use Rattle.acpi_base.proofs.Options.{cases_Option, none_and_some}
use Rattle.acpi_base.proofs.EntryOffsets.{AreOnes, cut_inside, one_said, said_inside, stands_with_decided, type_decided, unused_decided}

-- ---- the entries

pub ones : (whole : List ℕ) → AreOnes (madt_contents whole).entries
unfolding madt_contents
ones whole = one_said madt_entry 44 whole

pub inside : (whole : List ℕ) (o : ℕ) (e : MadtEntry) → Stands (madt_contents whole).entries o e → o < length whole
unfolding madt_contents
inside whole = said_inside madt_entry 44 whole

-- ---- an entry by itself

inti_decided : (flags : ℕ) → Decided (IsReservedInti flags)
inti_decided flags = either (same _ 2) (same _ 2)

flags_decided : (flags : Option ℕ) → Decided (MatchOption flags ⊥ IsReservedInti)
flags_decided None = inr (λ h. h)
flags_decided (Some flags) = inti_decided flags

address_decided : (e : MadtEntry) → Decided (IsAddressOverride e)
address_decided (AddressOverride v) = inl tt
address_decided _ = inr (λ h. h)

entry_fault_decided : (q : PolicyValue) (fault : Code) (e : MadtEntry) → Decided (MadtEntryFault q fault e)
entry_fault_decided q code.MadtEntryLength (Opaque e) = type_decided madt_kinds (slice_index e 0)
entry_fault_decided q code.OverrideBus (Override v) = differs v.bus 0
entry_fault_decided q code.ReservedInti e = flags_decided (inti_flags e)
entry_fault_decided q code.GsiPastEnd (IoApic v) = below (2 ^ 32) (v.gsi_base + inputs_of q v.address)
entry_fault_decided q _ _ = inr (λ h. h)

valid_entry : (q : PolicyValue) (e : MadtEntry) → ¬ MadtEntryFault q code.MadtEntryLength e
    → ¬ MadtEntryFault q code.OverrideBus e → ¬ MadtEntryFault q code.ReservedInti e
    → ¬ MadtEntryFault q code.GsiPastEnd e → IsValidMadtEntry q e
valid_entry q (IoApic v) size bus inti past = not_below (2 ^ 32) (v.gsi_base + inputs_of q v.address) past
valid_entry q (Override v) size bus inti past = (not_other v.bus 0 bus, inti)
valid_entry q (Opaque e) size bus inti past = size
valid_entry q _ size bus inti past = inti

inti_excludes : (q : PolicyValue) (e : MadtEntry) → HasReservedInti e → ¬ IsValidMadtEntry q e
inti_excludes q (Override v) wrong valid = valid.1 wrong
inti_excludes q (IoApic v) wrong valid = wrong
inti_excludes q (Opaque e) wrong valid = wrong
inti_excludes q _ wrong valid = valid wrong

pub entry_excludes : (q : PolicyValue) (fault : Code) (e : MadtEntry) → MadtEntryFault q fault e
    → ¬ IsValidMadtEntry q e
entry_excludes q code.MadtEntryLength (Opaque e) wrong valid = valid wrong
entry_excludes q code.OverrideBus (Override v) wrong valid = wrong valid.0
entry_excludes q code.ReservedInti e wrong valid = inti_excludes q e wrong valid
entry_excludes q code.GsiPastEnd (IoApic v) wrong valid = omega (arith, wrong, valid)
entry_excludes q _ _ wrong valid = wrong

-- ---- the table

pub decided : (q : PolicyValue) (whole : List ℕ) (fault : Code) (at other point : ℕ)
    → Decided (MadtFault q (madt_contents whole) fault at other point)
decided q whole code.MadtShort at other point =
    all3 (below (madt_contents whole).size 44) (same at 0) (unused_decided other point)
decided q whole code.MadtEntryCut at other point =
    both (is_some_number (madt_contents whole).cut at) (unused_decided other point)
decided q whole code.SecondAddressOverride at other point =
    all4 (stands_with_decided (madt_contents whole).entries at IsAddressOverride address_decided)
    (stands_with_decided (madt_contents whole).entries other IsAddressOverride address_decided) (below other at)
    (same point 0)
decided q whole fault at other point =
    both (stands_with_decided (madt_contents whole).entries at (MadtEntryFault q fault) (entry_fault_decided q fault))
    (unused_decided other point)

pub valid_without_fault : (q : PolicyValue) (whole : List ℕ)
    → ((fault : Code) (at other point : ℕ) → stage_of fault ≡ stage.Madt
    → ¬ MadtFault q (madt_contents whole) fault at other point) → IsValidMadt q (madt_contents whole)
valid_without_fault q whole none =
    record {
      long = not_below c.size 44 (λ short. none code.MadtShort 0 0 0 refl (short, refl, (refl, refl)));
      filled = elim (cases_Option c.cut) [
        | inl (at, is) ↦ absurd (none code.MadtEntryCut at 0 0 refl (is, (refl, refl)))
        | inr nothing ↦ nothing
      ];
      entries = λ o e stands.
          valid_entry q e (λ wrong. none code.MadtEntryLength o 0 0 refl ((e, stands, wrong), (refl, refl)))
          (λ wrong. none code.OverrideBus o 0 0 refl ((e, stands, wrong), (refl, refl)))
          (λ wrong. none code.ReservedInti o 0 0 refl ((e, stands, wrong), (refl, refl)))
          (λ wrong. none code.GsiPastEnd o 0 0 refl ((e, stands, wrong), (refl, refl)));
      one_address = one_address;
    }
  where
    c : MadtContents
    c = madt_contents whole

    one_address : (o p : ℕ) → StandsWith c.entries o IsAddressOverride → StandsWith c.entries p IsAddressOverride
        → o ≡ p
    one_address o p one other =
        elim (cases_order o p) [
          | inl is ↦ is
          | inr (inl less) ↦ absurd (none code.SecondAddressOverride p o 0 refl (other, one, less, refl))
          | inr (inr more) ↦ absurd (none code.SecondAddressOverride o p 0 refl (one, other, more, refl))
        ]

pub excludes : (q : PolicyValue) (c : MadtContents) (fault : Code) (at other point : ℕ)
    → MadtFault q c fault at other point → ¬ IsValidMadt q c
excludes q c code.MadtShort at other point (short, is, _) valid = omega (arith, short, valid.long)
excludes q c code.MadtEntryCut at other point (is, _) valid = none_and_some valid.filled is
excludes q c code.SecondAddressOverride at other point (one, earlier, before, _) valid =
    omega (arith, before, valid.one_address at other one earlier)
excludes q c fault at other point here valid =
    (let (e, stands, wrong) = here.0 in entry_excludes q fault e wrong (valid.entries at e stands))

pub place : (q : PolicyValue) (whole : List ℕ) (fault : Code) (at other point : ℕ)
    → MadtFault q (madt_contents whole) fault at other point
    → (at ≤ length whole) × (other ≤ length whole) × (point ≤ length whole)
unfolding madt_contents
place q whole code.MadtShort at other point (short, is, unused) = grind (arith, unused)
place q whole code.MadtEntryCut at other point (is, unused) = grind (arith, cut_inside 44 whole at is, unused)
place q whole code.SecondAddressOverride at other point (one, earlier, before, nothing) =
    grind (arith, inside whole at one.0 one.1, inside whole other earlier.0 earlier.1)
place q whole fault at other point here = grind (arith, inside whole at here.0.0 here.0.1, here.1)
