-- Examples of the MADT: bytes of small tables, what they say, and their faults, worked out by hand from the rules.
use Rattle.std.specs.Prelude.{◌≡◌, ℕ, ◌≤◌, List, [], ◌∷◌, All, Some, None}
use Rattle.acpi_base.specs.Policy.{PolicyValue, inputs_of}
use Rattle.acpi_base.specs.Listed.{madt_signature}
use Rattle.acpi_base.specs.Entries.{PlacedEntry}
use Rattle.acpi_base.specs.Madt.{MadtEntry, LocalApic, IoApic, Override, NmiSource, LocalNmi, AddressOverride, X2apic, X2apicNmi, Opaque, MadtContents, madt_contents, MadtFault, InterruptFault, IsFirstGsiClash, OverrideFault}
use Rattle.acpi_examples.specs.Tables.{table, placed_entry, IsValidExample}
use Rattle.acpi_base.specs.declared.code.Code.{Code}
use Rattle.acpi_base.specs.declared.code.Code.TheVariants as code

-- a MADT with the local APICs at 0xFEE00000 and flags 1
abbrev pub madt_table : ℕ → ℕ → List ℕ → List ℕ
madt_table size checksum entries =
    table madt_signature size 1 checksum (0 ∷ 0 ∷ 0xe0 ∷ 0xfe ∷ 1 ∷ 0 ∷ 0 ∷ 0 ∷ entries)

-- what the example MADTs say, unless they have a cut
abbrev pub said_madt : ℕ → List (PlacedEntry MadtEntry) → MadtContents
said_madt size entries = record { size = size; address = 0xfee00000; flags = 1; entries = entries; cut = None }

-- ---- a MADT with an entry of each kind, and one of type 11

abbrev pub all_kinds_bytes : List ℕ
all_kinds_bytes =
    madt_table 132 150
    (0 ∷ 8 ∷ 3 ∷ 0 ∷ 1 ∷ 0 ∷ 0 ∷ 0
    ∷ 1 ∷ 12 ∷ 5 ∷ 0 ∷ 0 ∷ 0 ∷ 0xc0 ∷ 0xfe ∷ 0 ∷ 0 ∷ 0 ∷ 0
    ∷ 2 ∷ 10 ∷ 0 ∷ 0 ∷ 2 ∷ 0 ∷ 0 ∷ 0 ∷ 0 ∷ 0
    ∷ 3 ∷ 8 ∷ 13 ∷ 0 ∷ 20 ∷ 0 ∷ 0 ∷ 0
    ∷ 4 ∷ 6 ∷ 0xff ∷ 5 ∷ 0 ∷ 1
    ∷ 5 ∷ 12 ∷ 0 ∷ 0 ∷ 0 ∷ 0 ∷ 0xe0 ∷ 0xfe ∷ 0 ∷ 0 ∷ 0 ∷ 0
    ∷ 9 ∷ 16 ∷ 0 ∷ 0 ∷ 0 ∷ 1 ∷ 0 ∷ 0 ∷ 1 ∷ 0 ∷ 0 ∷ 0 ∷ 4 ∷ 0 ∷ 0 ∷ 0
    ∷ 10 ∷ 12 ∷ 0 ∷ 0 ∷ 0xff ∷ 0xff ∷ 0xff ∷ 0xff ∷ 1 ∷ 0 ∷ 0 ∷ 0
    ∷ 11 ∷ 4 ∷ 0 ∷ 0
    ∷ [])

abbrev pub all_kinds : MadtContents
all_kinds =
    said_madt 132
    (placed_entry 44 (LocalApic (record { uid = 3; apic_id = 0; flags = 1 }))
    ∷ placed_entry 52 (IoApic (record { id = 5; address = 0xfec00000; gsi_base = 0 }))
    ∷ placed_entry 64 (Override (record { bus = 0; source = 0; gsi = 2; flags = 0 }))
    ∷ placed_entry 74 (NmiSource (record { flags = 13; gsi = 20 }))
    ∷ placed_entry 82 (LocalNmi (record { uid = 0xff; flags = 5; lint = 1 }))
    ∷ placed_entry 88 (AddressOverride (record { address = 0xfee00000 }))
    ∷ placed_entry 100 (X2apic (record { x2apic_id = 256; flags = 1; uid = 4 }))
    ∷ placed_entry 116 (X2apicNmi (record { flags = 0; uid = 0xffffffff; lint = 1 }))
    ∷ placed_entry 128 (Opaque (11 ∷ 4 ∷ 0 ∷ 0 ∷ []))
    ∷ [])

-- ---- a MADT with two I/O APICs

abbrev pub two_io_apics_bytes : List ℕ
two_io_apics_bytes =
    madt_table 68 109
    (1 ∷ 12 ∷ 0 ∷ 0 ∷ 0 ∷ 0 ∷ 0xc0 ∷ 0xfe ∷ 0 ∷ 0 ∷ 0 ∷ 0
    ∷ 1 ∷ 12 ∷ 0 ∷ 0 ∷ 0 ∷ 0x10 ∷ 0xc0 ∷ 0xfe ∷ 24 ∷ 0 ∷ 0 ∷ 0
    ∷ [])

abbrev pub two_io_apics : MadtContents
two_io_apics =
    said_madt 68
    (placed_entry 44 (IoApic (record { id = 0; address = 0xfec00000; gsi_base = 0 }))
    ∷ placed_entry 56 (IoApic (record { id = 0; address = 0xfec01000; gsi_base = 24 }))
    ∷ [])

-- ---- a MADT with an entry and two bytes that are none

abbrev pub cut_bytes : List ℕ
cut_bytes = madt_table 54 41 (0 ∷ 8 ∷ 0 ∷ 0 ∷ 1 ∷ 0 ∷ 0 ∷ 0 ∷ 7 ∷ 0 ∷ [])

abbrev pub cut_madt : MadtContents
cut_madt =
    record {
      size = 54;
      address = 0xfee00000;
      flags = 1;
      entries = placed_entry 44 (LocalApic (record { uid = 0; apic_id = 0; flags = 1 })) ∷ [];
      cut = Some 52;
    }

-- ---- a MADT with two overrides of one Source

abbrev pub two_overrides_bytes : List ℕ
two_overrides_bytes =
    madt_table 64 232
    (2 ∷ 10 ∷ 0 ∷ 9 ∷ 9 ∷ 0 ∷ 0 ∷ 0 ∷ 0 ∷ 0
    ∷ 2 ∷ 10 ∷ 0 ∷ 9 ∷ 20 ∷ 0 ∷ 0 ∷ 0 ∷ 0 ∷ 0
    ∷ [])

abbrev pub two_overrides : MadtContents
two_overrides =
    said_madt 64
    (placed_entry 44 (Override (record { bus = 0; source = 9; gsi = 9; flags = 0 }))
    ∷ placed_entry 54 (Override (record { bus = 0; source = 9; gsi = 20; flags = 0 }))
    ∷ [])

-- ---- a MADT whose entries have faults, all but the first address override

abbrev pub faulty_madt_bytes : List ℕ
faulty_madt_bytes =
    madt_table 102 210
    (0 ∷ 12 ∷ 0 ∷ 0 ∷ 0 ∷ 0 ∷ 0 ∷ 0 ∷ 0 ∷ 0 ∷ 0 ∷ 0
    ∷ 2 ∷ 10 ∷ 1 ∷ 0 ∷ 0 ∷ 0 ∷ 0 ∷ 0 ∷ 2 ∷ 0
    ∷ 5 ∷ 12 ∷ 0 ∷ 0 ∷ 0 ∷ 0 ∷ 0 ∷ 0 ∷ 0 ∷ 0 ∷ 0 ∷ 0
    ∷ 5 ∷ 12 ∷ 0 ∷ 0 ∷ 0 ∷ 0 ∷ 0 ∷ 0 ∷ 0 ∷ 0 ∷ 0 ∷ 0
    ∷ 1 ∷ 12 ∷ 0 ∷ 0 ∷ 0 ∷ 0 ∷ 0 ∷ 0 ∷ 0xf0 ∷ 0xff ∷ 0xff ∷ 0xff
    ∷ [])

abbrev pub faulty_madt : MadtContents
faulty_madt =
    said_madt 102
    (placed_entry 44 (Opaque (0 ∷ 12 ∷ 0 ∷ 0 ∷ 0 ∷ 0 ∷ 0 ∷ 0 ∷ 0 ∷ 0 ∷ 0 ∷ 0 ∷ []))
    ∷ placed_entry 56 (Override (record { bus = 1; source = 0; gsi = 0; flags = 2 }))
    ∷ placed_entry 66 (AddressOverride (record { address = 0 }))
    ∷ placed_entry 78 (AddressOverride (record { address = 0 }))
    ∷ placed_entry 90 (IoApic (record { id = 0; address = 0; gsi_base = 0xfffffff0 }))
    ∷ [])

-- ---- what they state

-- these MADTs
abbrev pub example_madts : List (List ℕ)
example_madts = all_kinds_bytes ∷ two_io_apics_bytes ∷ cut_bytes ∷ two_overrides_bytes ∷ faulty_madt_bytes ∷ []

-- what the MADTs say
pub record AreMadtContents : Type 0 where
  pub valid : All IsValidExample example_madts
  pub kinds_say : madt_contents all_kinds_bytes ≡ all_kinds
  pub io_apics_say : madt_contents two_io_apics_bytes ≡ two_io_apics
  pub cut_says : madt_contents cut_bytes ≡ cut_madt
  pub overrides_say : madt_contents two_overrides_bytes ≡ two_overrides
  pub faulty_says : madt_contents faulty_madt_bytes ≡ faulty_madt

-- the faults of the MADTs; a MADT of 40 bytes is too short
pub record AreMadtFaults (q : PolicyValue) : Type 0 where
  pub short : MadtFault q (madt_contents (table madt_signature 40 1 72 (0 ∷ 0 ∷ 0xe0 ∷ 0xfe ∷ []))) code.MadtShort 0 0 0
  pub cut : MadtFault q (madt_contents cut_bytes) code.MadtEntryCut 0x34 0 0
  pub size : MadtFault q (madt_contents faulty_madt_bytes) code.MadtEntryLength 0x2c 0 0
  pub bus : MadtFault q (madt_contents faulty_madt_bytes) code.OverrideBus 0x38 0 0
  pub inti : MadtFault q (madt_contents faulty_madt_bytes) code.ReservedInti 0x38 0 0
  pub second : MadtFault q (madt_contents faulty_madt_bytes) code.SecondAddressOverride 0x4e 0x42 0
  pub gsi : inputs_of q 0 ≡ 24 → MadtFault q (madt_contents faulty_madt_bytes) code.GsiPastEnd 0x5a 0 0
  pub overlap : inputs_of q 0xfec00000 ≡ 32 → inputs_of q 0xfec01000 ≡ 24 → InterruptFault q (madt_contents two_io_apics_bytes) code.GsiClash 0x2c 0x38 0x18
  pub sources : OverrideFault (madt_contents two_overrides_bytes) code.OverrideClash 0x36 0x2c 9

-- the MADT with an entry of each kind has no fault of stage 6, however many inputs its I/O APIC has, up to 256
abbrev pub HasNoMadtFault : PolicyValue → Type 0
HasNoMadtFault q = inputs_of q 0xfec00000 ≤ 256 → (fault : Code) (at other point : ℕ) → ¬ MadtFault q (madt_contents all_kinds_bytes) fault at other point

-- the interrupt number that is reported for the two I/O APICs
abbrev pub IsFirstInterrupt : PolicyValue → Type 0
IsFirstInterrupt q = inputs_of q 0xfec00000 ≡ 32 → inputs_of q 0xfec01000 ≡ 24 → IsFirstGsiClash q two_io_apics 0x2c 0x38 0x18
