-- The SRAT (ACPI 6.5, 5.2.16): its entries and fields, and when it is valid. Offsets of fields are from the start of the
-- table or of the entry.
use Rattle.std.specs.Prelude.{◌≡◌, ℕ, suc, ◌+◌, ◌*◌, ◌^◌, ◌<◌, ◌≤◌, ◌⊎◌, Bool, true, false, List, [], ◌∷◌, length, slice_index, Option, Some, None}
use Rattle.acpi_base.specs.Number.{field, has_bit}
use Rattle.acpi_base.specs.Entries.{PlacedEntry, Stands, StandsWith, entries_of, cut_of, entries_read_by, EntryType, kind, kind_as, value_of_kind, IsTypeOf, AreUnused}
use Rattle.acpi_base.specs.Overlaps.{IsIntervalOverlap, AreApartBelow, IsFirstIntervalOverlap}
use Rattle.acpi_base.specs.declared.policy.HotPlug.{HotPlug}
use Rattle.acpi_base.specs.declared.policy.HotPlug.TheVariants.{Counted, Apart}
use Rattle.acpi_base.specs.declared.code.Code.{Code}
use Rattle.acpi_base.specs.declared.code.Code.TheVariants as code

-- ---- kinds of entries

-- Processor Local APIC Affinity (5.2.16.1); bits 31:8 of the domain are separate from bits 7:0
pub record ApicDomainValue : Type 0 where
  pub domain : ℕ
  pub apic_id : ℕ
  pub flags : ℕ
  pub eid : ℕ
  pub clock_domain : ℕ

abbrev pub apic_domain : EntryType ApicDomainValue
apic_domain = kind 0 16 (λ e. record {
  domain = field e 2 1 + 256 * field e 9 3;
  apic_id = field e 3 1;
  flags = field e 4 4;
  eid = field e 8 1;
  clock_domain = field e 12 4;
})

-- Memory Affinity (5.2.16.2): a range of addresses
pub record MemoryValue : Type 0 where
  pub domain : ℕ
  pub base : ℕ
  pub size : ℕ
  pub flags : ℕ

abbrev pub memory_range : EntryType MemoryValue
memory_range = kind 1 40 (λ e. record { domain = field e 2 4; base = field e 8 8; size = field e 16 8; flags = field e 28 4 })

-- Processor Local x2APIC Affinity (5.2.16.3)
pub record X2apicDomainValue : Type 0 where
  pub domain : ℕ
  pub x2apic_id : ℕ
  pub flags : ℕ
  pub clock_domain : ℕ

abbrev pub x2apic_domain : EntryType X2apicDomainValue
x2apic_domain = kind 2 24 (λ e. record { domain = field e 4 4; x2apic_id = field e 8 4; flags = field e 12 4; clock_domain = field e 16 4 })

-- ---- entries

-- what an entry says: one of the above, an entry of a known type, or any other bytes, also those of a type above with another
-- length
pub data SratEntry : Type 0 where
  ApicDomain : ApicDomainValue → SratEntry
  MemoryRange : MemoryValue → SratEntry
  X2apicDomain : X2apicDomainValue → SratEntry
  Opaque : List ℕ → SratEntry

-- their kinds
abbrev pub srat_kinds : List (EntryType SratEntry)
srat_kinds =
    kind_as ApicDomain apic_domain ∷
    kind_as MemoryRange memory_range ∷
    kind_as X2apicDomain x2apic_domain ∷
    []

-- what the bytes of an entry say
unfoldable pub srat_entry : List ℕ → SratEntry
srat_entry e = value_of_kind srat_kinds Opaque e

-- Enabled is set in the flags of an entry of any of the three types
abbrev pub is_enabled : ℕ → Bool
is_enabled flags = has_bit flags 0

-- Hot Pluggable is set in the flags of a range
abbrev pub is_hot_pluggable : ℕ → Bool
is_hot_pluggable flags = has_bit flags 1

-- ---- the table

-- what an SRAT says: its length in bytes, its entries up to the cut, and the cut
pub record SratContents : Type 0 where
  pub size : ℕ
  pub entries : List (PlacedEntry SratEntry)
  pub cut : Option ℕ

-- what the bytes of an SRAT say; the first entry is at 48
unfoldable pub srat_contents : List ℕ → SratContents
srat_contents whole =
    record { size = length whole; entries = entries_read_by srat_entry (entries_of 48 whole); cut = cut_of 48 whole }

-- ---- stage 9: each entry by itself

-- an entry is valid: it has its type's length, or a type that is not known, and an enabled range ends at 2^64 or before
abbrev pub IsValidSratEntry : SratEntry → Type 0
IsValidSratEntry (MemoryRange v) = is_enabled v.flags ≡ true → v.base + v.size ≤ 2 ^ 64
IsValidSratEntry (Opaque e) = ¬ IsTypeOf srat_kinds (slice_index e 0)
IsValidSratEntry _ = Unit {0}

-- Stage 9: the table is long enough, its entries fill it, and each is valid.
pub record IsValidSrat (c : SratContents) : Type 0 where
  pub long : 48 ≤ c.size
  pub filled : c.cut ≡ None
  pub entries : (o : ℕ) (e : SratEntry) → Stands c.entries o e → IsValidSratEntry e

-- The faults that an entry has by itself, by their code.
abbrev pub SratEntryFault : Code → SratEntry → Type 0
SratEntryFault code.SratEntryLength (Opaque e) = IsTypeOf srat_kinds (slice_index e 0)
SratEntryFault code.RangePastEnd (MemoryRange v) = (is_enabled v.flags ≡ true) × (2 ^ 64 < v.base + v.size)
SratEntryFault _ _ = ⊥

-- The faults of stage 9, by their code and numbers: `at` is 0 for a short table, otherwise the entry's offset or the cut. A
-- table of fewer than 48 bytes has no entries and no cut.
abbrev pub SratFault : SratContents → Code → ℕ → ℕ → ℕ → Type 0
SratFault c code.SratShort at other point = (c.size < 48) × (at ≡ 0) × AreUnused other point
SratFault c code.SratEntryCut at other point = (c.cut ≡ Some at) × AreUnused other point
SratFault c fault at other point = StandsWith c.entries at (SratEntryFault fault) × AreUnused other point

-- ---- stage 10: ranges

-- all ranges
abbrev pub IsAny : MemoryValue → Type 0
IsAny v = Unit {0}

-- those that are hot-pluggable
abbrev pub IsHotPluggable : MemoryValue → Type 0
IsHotPluggable v = is_hot_pluggable v.flags ≡ true

-- those that are not
abbrev pub IsNotHotPluggable : MemoryValue → Type 0
IsNotHotPluggable v = is_hot_pluggable v.flags ≡ false

-- the entry is an enabled range with P that begins at `start` and contains the address x
abbrev pub CoversFrom : (MemoryValue → Type 0) → ℕ → ℕ → SratEntry → Type 0
CoversFrom P start x (MemoryRange v) = (is_enabled v.flags ≡ true) × P v × (v.base ≡ start) × (start ≤ x) × (x < start + v.size)
CoversFrom P start x _ = ⊥

-- such an entry is at o
abbrev pub Covers : (MemoryValue → Type 0) → SratContents → ℕ → ℕ → ℕ → Type 0
Covers P c o start x = StandsWith c.entries o (CoversFrom P start x)

-- two compared enabled ranges contain the address x: any two, or with `Apart` two that both are hot-pluggable or both are not
abbrev pub IsOverlap : HotPlug → SratContents → ℕ → ℕ → ℕ → Type 0
IsOverlap Counted c o p x = IsIntervalOverlap (Covers IsAny c) o p x
IsOverlap Apart c o p x = IsIntervalOverlap (Covers IsNotHotPluggable c) o p x ⊎ IsIntervalOverlap (Covers IsHotPluggable c) o p x

-- Stage 10: no address is in two enabled ranges that are compared.
abbrev pub AreRangesApart : HotPlug → SratContents → Type 0
AreRangesApart h c = (o p x : ℕ) → ¬ IsOverlap h c o p x

-- The fault of stage 10: the enabled ranges at `at` and `other` are compared and both contain the address `point`, which has
-- 64 bits. Ranges that overlap share the greater of their bases, so they always share such an address.
abbrev pub RangeFault : HotPlug → SratContents → Code → ℕ → ℕ → ℕ → Type 0
RangeFault h c code.Overlap at other point = (point < 2 ^ 64) × IsOverlap h c at other point
RangeFault h c _ at other point = ⊥

-- The fault of stage 10 that is reported. With `Apart`, it is the first overlap of one of the two kinds, the one with the
-- lower `point`; if both have the same `point`, that of the ranges that are not hot-pluggable.
abbrev pub IsFirstOverlap : HotPlug → SratContents → ℕ → ℕ → ℕ → Type 0
IsFirstOverlap Counted c at other point = IsFirstIntervalOverlap (Covers IsAny c) at other point
IsFirstOverlap Apart c at other point =
    (IsFirstIntervalOverlap (Covers IsNotHotPluggable c) at other point × AreApartBelow (Covers IsHotPluggable c) point)
    ⊎ (IsFirstIntervalOverlap (Covers IsHotPluggable c) at other point × AreApartBelow (Covers IsNotHotPluggable c) (suc point))

-- ---- for the rules across tables

-- the entry is enabled and puts the processor with the number i in the domain d; APIC IDs and x2APIC IDs are one number
-- space
abbrev pub PutsIn : ℕ → ℕ → SratEntry → Type 0
PutsIn i d (ApicDomain v) = (v.apic_id ≡ i) × (v.domain ≡ d) × (is_enabled v.flags ≡ true)
PutsIn i d (X2apicDomain v) = (v.x2apic_id ≡ i) × (v.domain ≡ d) × (is_enabled v.flags ≡ true)
PutsIn i d _ = ⊥
