-- The MADT (ACPI 6.5, 5.2.12): its entries and fields, and when it is valid. Offsets of fields are from the start of the
-- table or of the entry.
use Rattle.std.specs.Prelude.{◌≡◌, ◌≢◌, ℕ, ◌+◌, ◌/◌, ◌%◌, ◌^◌, ◌<◌, ◌≤◌, ◌⊎◌, List, [], ◌∷◌, length, slice_index, Option, Some, None, true, MatchOption}
use Rattle.acpi_base.specs.Number.{field}
use Rattle.acpi_base.specs.Policy.{PolicyValue, inputs_of, counts_as_enabled}
use Rattle.acpi_base.specs.Entries.{PlacedEntry, Stands, StandsWith, entries_of, cut_of, entries_read_by, EntryType, kind, kind_as, value_of_kind, IsTypeOf, AreUnused}
use Rattle.acpi_base.specs.Overlaps.{IsIntervalOverlap, AreApart, IsFirstIntervalOverlap}
use Rattle.acpi_base.specs.declared.policy.Processors.{Processors}
use Rattle.acpi_base.specs.declared.code.Code.{Code}
use Rattle.acpi_base.specs.declared.code.Code.TheVariants as code

-- ---- kinds of entries

-- Processor Local APIC (5.2.12.2)
pub record LocalApicValue : Type 0 where
  pub uid : ℕ
  pub apic_id : ℕ
  pub flags : ℕ

abbrev pub local_apic : EntryType LocalApicValue
local_apic = kind 0 8 (λ e. record { uid = field e 2 1; apic_id = field e 3 1; flags = field e 4 4 })

-- I/O APIC (5.2.12.3); `gsi_base` is the first interrupt number that it serves
pub record IoApicValue : Type 0 where
  pub id : ℕ
  pub address : ℕ
  pub gsi_base : ℕ

abbrev pub io_apic : EntryType IoApicValue
io_apic = kind 1 12 (λ e. record { id = field e 2 1; address = field e 4 4; gsi_base = field e 8 4 })

-- Interrupt Source Override (5.2.12.5): the interrupt number of an ISA interrupt
pub record OverrideValue : Type 0 where
  pub bus : ℕ
  pub source : ℕ
  pub gsi : ℕ
  pub flags : ℕ

abbrev pub override : EntryType OverrideValue
override = kind 2 10 (λ e. record { bus = field e 2 1; source = field e 3 1; gsi = field e 4 4; flags = field e 8 2 })

-- NMI Source (5.2.12.6): an interrupt number that is an NMI
pub record NmiSourceValue : Type 0 where
  pub flags : ℕ
  pub gsi : ℕ

abbrev pub nmi_source : EntryType NmiSourceValue
nmi_source = kind 3 8 (λ e. record { flags = field e 2 2; gsi = field e 4 4 })

-- Local APIC NMI (5.2.12.7); the UID 0xFF means all processors
pub record LocalNmiValue : Type 0 where
  pub uid : ℕ
  pub flags : ℕ
  pub lint : ℕ

abbrev pub local_nmi : EntryType LocalNmiValue
local_nmi = kind 4 6 (λ e. record { uid = field e 2 1; flags = field e 3 2; lint = field e 5 1 })

-- Local APIC Address Override (5.2.12.8): the address in 64 bits
pub record AddressOverrideValue : Type 0 where
  pub address : ℕ

abbrev pub address_override : EntryType AddressOverrideValue
address_override = kind 5 12 (λ e. record { address = field e 4 8 })

-- Processor Local x2APIC (5.2.12.12)
pub record X2apicValue : Type 0 where
  pub x2apic_id : ℕ
  pub flags : ℕ
  pub uid : ℕ

abbrev pub x2apic : EntryType X2apicValue
x2apic = kind 9 16 (λ e. record { x2apic_id = field e 4 4; flags = field e 8 4; uid = field e 12 4 })

-- Local x2APIC NMI (5.2.12.13); the UID 0xFFFFFFFF means all processors
pub record X2apicNmiValue : Type 0 where
  pub flags : ℕ
  pub uid : ℕ
  pub lint : ℕ

abbrev pub x2apic_nmi : EntryType X2apicNmiValue
x2apic_nmi = kind 10 12 (λ e. record { flags = field e 2 2; uid = field e 4 4; lint = field e 8 1 })

-- ---- entries

-- what an entry says: one of the above, an entry of a known type, or any other bytes, also those of a type above with another
-- length
pub data MadtEntry : Type 0 where
  LocalApic : LocalApicValue → MadtEntry
  IoApic : IoApicValue → MadtEntry
  Override : OverrideValue → MadtEntry
  NmiSource : NmiSourceValue → MadtEntry
  LocalNmi : LocalNmiValue → MadtEntry
  AddressOverride : AddressOverrideValue → MadtEntry
  X2apic : X2apicValue → MadtEntry
  X2apicNmi : X2apicNmiValue → MadtEntry
  Opaque : List ℕ → MadtEntry

-- their kinds
abbrev pub madt_kinds : List (EntryType MadtEntry)
madt_kinds =
    kind_as LocalApic local_apic ∷
    kind_as IoApic io_apic ∷
    kind_as Override override ∷
    kind_as NmiSource nmi_source ∷
    kind_as LocalNmi local_nmi ∷
    kind_as AddressOverride address_override ∷
    kind_as X2apic x2apic ∷
    kind_as X2apicNmi x2apic_nmi ∷
    []

-- what the bytes of an entry say
unfoldable pub madt_entry : List ℕ → MadtEntry
madt_entry e = value_of_kind madt_kinds Opaque e

-- ---- the table

-- what a MADT says: its length in bytes, the local APICs' address, its flags, its entries up to the cut, and the cut
pub record MadtContents : Type 0 where
  pub size : ℕ
  pub address : ℕ
  pub flags : ℕ
  pub entries : List (PlacedEntry MadtEntry)
  pub cut : Option ℕ

-- what the bytes of a MADT say; the first entry is at 44
unfoldable pub madt_contents : List ℕ → MadtContents
madt_contents whole =
    record {
      size = length whole;
      address = field whole 36 4;
      flags = field whole 40 4;
      entries = entries_read_by madt_entry (entries_of 44 whole);
      cut = cut_of 44 whole;
    }

-- ---- stage 6: each entry by itself

-- the polarity, bits 1:0, or the trigger mode, bits 3:2, is 10b, which is reserved (5.2.12.5)
abbrev pub IsReservedInti : ℕ → Type 0
IsReservedInti flags = (flags % 4 ≡ 2) ⊎ (flags / 4 % 4 ≡ 2)

-- the MPS INTI Flags of an entry that has them
abbrev pub inti_flags : MadtEntry → Option ℕ
inti_flags (Override v) = Some v.flags
inti_flags (NmiSource v) = Some v.flags
inti_flags (LocalNmi v) = Some v.flags
inti_flags (X2apicNmi v) = Some v.flags
inti_flags _ = None

-- an entry has a reserved polarity or trigger mode
abbrev pub HasReservedInti : MadtEntry → Type 0
HasReservedInti e = MatchOption (inti_flags e) ⊥ IsReservedInti

-- an entry is valid: it has its type's length, or a type that is not known; an override is of the ISA bus; its polarity and
-- trigger mode are not reserved; and the interrupt numbers of an I/O APIC end at 2^32 or before
abbrev pub IsValidMadtEntry : PolicyValue → MadtEntry → Type 0
IsValidMadtEntry q (IoApic v) = v.gsi_base + inputs_of q v.address ≤ 2 ^ 32
IsValidMadtEntry q (Override v) = (v.bus ≡ 0) × (¬ IsReservedInti v.flags)
IsValidMadtEntry q (Opaque e) = ¬ IsTypeOf madt_kinds (slice_index e 0)
IsValidMadtEntry q e = ¬ HasReservedInti e

-- the entry is an address override
abbrev pub IsAddressOverride : MadtEntry → Type 0
IsAddressOverride (AddressOverride v) = Unit {0}
IsAddressOverride _ = ⊥

-- Stage 6: the table is long enough, its entries fill it, each is valid, and at most one is an address override.
pub record IsValidMadt (q : PolicyValue) (c : MadtContents) : Type 0 where
  pub long : 44 ≤ c.size
  pub filled : c.cut ≡ None
  pub entries : (o : ℕ) (e : MadtEntry) → Stands c.entries o e → IsValidMadtEntry q e
  pub one_address : (o p : ℕ) → StandsWith c.entries o IsAddressOverride → StandsWith c.entries p IsAddressOverride → o ≡ p

-- The faults that an entry has by itself, by their code.
abbrev pub MadtEntryFault : PolicyValue → Code → MadtEntry → Type 0
MadtEntryFault q code.MadtEntryLength (Opaque e) = IsTypeOf madt_kinds (slice_index e 0)
MadtEntryFault q code.OverrideBus (Override v) = v.bus ≢ 0
MadtEntryFault q code.ReservedInti e = HasReservedInti e
MadtEntryFault q code.GsiPastEnd (IoApic v) = 2 ^ 32 < v.gsi_base + inputs_of q v.address
MadtEntryFault q _ _ = ⊥

-- The faults of stage 6, by their code and numbers: `at` is 0 for a short table, otherwise the entry's offset or the cut;
-- `other` is the offset of any earlier address override, and 0 for other codes. A table of fewer than 44 bytes has no entries
-- and no cut.
abbrev pub MadtFault : PolicyValue → MadtContents → Code → ℕ → ℕ → ℕ → Type 0
MadtFault q c code.MadtShort at other point = (c.size < 44) × (at ≡ 0) × AreUnused other point
MadtFault q c code.MadtEntryCut at other point = (c.cut ≡ Some at) × AreUnused other point
MadtFault q c code.SecondAddressOverride at other point = StandsWith c.entries at IsAddressOverride × StandsWith c.entries other IsAddressOverride × (other < at) × (point ≡ 0)
MadtFault q c fault at other point = StandsWith c.entries at (MadtEntryFault q fault) × AreUnused other point

-- ---- stage 7: interrupt numbers

-- the entry is an I/O APIC that serves interrupt numbers from `start` on, as many as it has inputs; g is one of them
abbrev pub ServesFrom : PolicyValue → ℕ → ℕ → MadtEntry → Type 0
ServesFrom q start g (IoApic v) = (v.gsi_base ≡ start) × (start ≤ g) × (g < start + inputs_of q v.address)
ServesFrom q start g _ = ⊥

-- such an entry is at o
abbrev pub Serves : PolicyValue → MadtContents → ℕ → ℕ → ℕ → Type 0
Serves q c o start g = StandsWith c.entries o (ServesFrom q start g)

-- Stage 7: no interrupt number is served by two I/O APICs.
abbrev pub AreInterruptsApart : PolicyValue → MadtContents → Type 0
AreInterruptsApart q c = AreApart (Serves q c)

-- The fault of stage 7: the I/O APICs at `at` and `other` both serve the interrupt number `point`.
abbrev pub InterruptFault : PolicyValue → MadtContents → Code → ℕ → ℕ → ℕ → Type 0
InterruptFault q c code.GsiClash at other point = IsIntervalOverlap (Serves q c) at other point
InterruptFault q c _ at other point = ⊥

-- the fault of stage 7 that is reported
abbrev pub IsFirstGsiClash : PolicyValue → MadtContents → ℕ → ℕ → ℕ → Type 0
IsFirstGsiClash q c at other point = IsFirstIntervalOverlap (Serves q c) at other point

-- ---- stage 8: overrides

-- the entry is an override that gives the Source the interrupt number g
abbrev pub Overrides : ℕ → ℕ → MadtEntry → Type 0
Overrides source g (Override v) = (v.source ≡ source) × (v.gsi ≡ g)
Overrides source g _ = ⊥

-- Stage 8: no two overrides give one Source two interrupt numbers.
abbrev pub DoOverridesAgree : MadtContents → Type 0
DoOverridesAgree c = (o p source g h : ℕ) → StandsWith c.entries o (Overrides source g) → StandsWith c.entries p (Overrides source h) → g ≡ h

-- The fault of stage 8: the overrides at `at` and, before it, at `other` give the Source `point` two interrupt numbers.
abbrev pub OverrideFault : MadtContents → Code → ℕ → ℕ → ℕ → Type 0
OverrideFault c code.OverrideClash at other point = (g h : ℕ) × StandsWith c.entries at (Overrides point g) × StandsWith c.entries other (Overrides point h) × (other < at) × (g ≢ h)
OverrideFault c _ at other point = ⊥

-- ---- for the rules across tables

-- the entry is of a processor with the number i that counts as enabled; APIC IDs and x2APIC IDs are one number space
abbrev pub IsEnabledProcessor : Processors → ℕ → MadtEntry → Type 0
IsEnabledProcessor p i (LocalApic v) = (v.apic_id ≡ i) × (counts_as_enabled p v.flags ≡ true)
IsEnabledProcessor p i (X2apic v) = (v.x2apic_id ≡ i) × (counts_as_enabled p v.flags ≡ true)
IsEnabledProcessor p i _ = ⊥

-- the entry is of a processor, enabled or not, with this UID
abbrev pub HasUid : ℕ → MadtEntry → Type 0
HasUid uid (LocalApic v) = v.uid ≡ uid
HasUid uid (X2apic v) = v.uid ≡ uid
HasUid uid _ = ⊥

-- the entry is an override or an NMI source and names the interrupt number g
abbrev pub NamesGsi : ℕ → MadtEntry → Type 0
NamesGsi g (Override v) = v.gsi ≡ g
NamesGsi g (NmiSource v) = v.gsi ≡ g
NamesGsi g _ = ⊥

-- the table has at least 44 bytes, and entries of known types fill the rest of it
pub record IsWhollyTyped (c : MadtContents) : Type 0 where
  pub long : 44 ≤ c.size
  pub filled : c.cut ≡ None
  pub typed : (o : ℕ) (e : List ℕ) → ¬ Stands c.entries o (Opaque e)
