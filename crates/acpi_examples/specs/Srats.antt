-- Examples of the SRAT: bytes of small tables, what they say, and their faults, worked out by hand from the rules.
use Rattle.std.specs.Prelude.{◌≡◌, ℕ, List, [], ◌∷◌, All, Some, None}
use Rattle.acpi_base.specs.Listed.{srat_signature}
use Rattle.acpi_base.specs.Entries.{PlacedEntry}
use Rattle.acpi_base.specs.Srat.{SratEntry, ApicDomain, MemoryRange, X2apicDomain, Opaque, SratContents, srat_contents, SratFault, RangeFault, IsFirstOverlap}
use Rattle.acpi_examples.specs.Tables.{table, placed_entry, IsValidExample}
use Rattle.acpi_base.specs.declared.policy.HotPlug.{HotPlug}
use Rattle.acpi_base.specs.declared.policy.HotPlug.TheVariants.{Counted, Apart}
use Rattle.acpi_base.specs.declared.code.Code.{Code}
use Rattle.acpi_base.specs.declared.code.Code.TheVariants as code

-- an SRAT
abbrev pub srat_table : ℕ → ℕ → List ℕ → List ℕ
srat_table size checksum entries =
    table srat_signature size 1 checksum (1 ∷ 0 ∷ 0 ∷ 0 ∷ 0 ∷ 0 ∷ 0 ∷ 0 ∷ 0 ∷ 0 ∷ 0 ∷ 0 ∷ entries)

-- what the example SRATs say, unless they have a cut
abbrev pub said_srat : ℕ → List (PlacedEntry SratEntry) → SratContents
said_srat size entries = record { size = size; entries = entries; cut = None }

-- ---- an SRAT with two processors

abbrev pub two_processors_bytes : List ℕ
two_processors_bytes =
    srat_table 88 161
    (0 ∷ 16 ∷ 0 ∷ 5 ∷ 1 ∷ 0 ∷ 0 ∷ 0 ∷ 0 ∷ 0 ∷ 0 ∷ 0 ∷ 0 ∷ 0 ∷ 0 ∷ 0
    ∷ 2 ∷ 24 ∷ 0 ∷ 0 ∷ 1 ∷ 0 ∷ 0 ∷ 0 ∷ 5 ∷ 0 ∷ 0 ∷ 0 ∷ 1 ∷ 0 ∷ 0 ∷ 0 ∷ 0 ∷ 0 ∷ 0 ∷ 0 ∷ 0 ∷ 0 ∷ 0 ∷ 0
    ∷ [])

abbrev pub two_processors : SratContents
two_processors =
    said_srat 88
    (placed_entry 48 (ApicDomain (record { domain = 0; apic_id = 5; flags = 1; eid = 0; clock_domain = 0 }))
    ∷ placed_entry 64 (X2apicDomain (record { domain = 1; x2apic_id = 5; flags = 1; clock_domain = 0 }))
    ∷ [])

-- ---- an SRAT with four ranges, the second of no bytes, the last over the third

abbrev pub four_ranges_bytes : List ℕ
four_ranges_bytes =
    srat_table 208 30
    (1 ∷ 40 ∷ 0 ∷ 0 ∷ 0 ∷ 0 ∷ 0 ∷ 0 ∷ 0 ∷ 0 ∷ 0 ∷ 0 ∷ 0 ∷ 0 ∷ 0 ∷ 0 ∷ 0 ∷ 0 ∷ 10 ∷ 0 ∷ 0 ∷ 0 ∷ 0 ∷ 0 ∷ 0 ∷ 0 ∷ 0 ∷ 0 ∷ 1 ∷ 0 ∷ 0 ∷ 0 ∷ 0 ∷ 0 ∷ 0 ∷ 0 ∷ 0 ∷ 0 ∷ 0 ∷ 0
    ∷ 1 ∷ 40 ∷ 0 ∷ 0 ∷ 0 ∷ 0 ∷ 0 ∷ 0 ∷ 0 ∷ 0 ∷ 5 ∷ 0 ∷ 0 ∷ 0 ∷ 0 ∷ 0 ∷ 0 ∷ 0 ∷ 0 ∷ 0 ∷ 0 ∷ 0 ∷ 0 ∷ 0 ∷ 0 ∷ 0 ∷ 0 ∷ 0 ∷ 1 ∷ 0 ∷ 0 ∷ 0 ∷ 0 ∷ 0 ∷ 0 ∷ 0 ∷ 0 ∷ 0 ∷ 0 ∷ 0
    ∷ 1 ∷ 40 ∷ 0 ∷ 0 ∷ 0 ∷ 0 ∷ 0 ∷ 0 ∷ 0 ∷ 0 ∷ 0x10 ∷ 0 ∷ 0 ∷ 0 ∷ 0 ∷ 0 ∷ 0 ∷ 0 ∷ 0xf0 ∷ 0x3f ∷ 0 ∷ 0 ∷ 0 ∷ 0 ∷ 0 ∷ 0 ∷ 0 ∷ 0 ∷ 1 ∷ 0 ∷ 0 ∷ 0 ∷ 0 ∷ 0 ∷ 0 ∷ 0 ∷ 0 ∷ 0 ∷ 0 ∷ 0
    ∷ 1 ∷ 40 ∷ 0 ∷ 0 ∷ 0 ∷ 0 ∷ 0 ∷ 0 ∷ 0xff ∷ 0xff ∷ 0xff ∷ 0x3f ∷ 0 ∷ 0 ∷ 0 ∷ 0 ∷ 0 ∷ 0x10 ∷ 0 ∷ 0 ∷ 0 ∷ 0 ∷ 0 ∷ 0 ∷ 0 ∷ 0 ∷ 0 ∷ 0 ∷ 1 ∷ 0 ∷ 0 ∷ 0 ∷ 0 ∷ 0 ∷ 0 ∷ 0 ∷ 0 ∷ 0 ∷ 0 ∷ 0
    ∷ [])

abbrev pub four_ranges : SratContents
four_ranges =
    said_srat 208
    (placed_entry 48 (MemoryRange (record { domain = 0; base = 0; size = 0xa0000; flags = 1 }))
    ∷ placed_entry 88 (MemoryRange (record { domain = 0; base = 0x50000; size = 0; flags = 1 }))
    ∷ placed_entry 128 (MemoryRange (record { domain = 0; base = 0x100000; size = 0x3ff00000; flags = 1 }))
    ∷ placed_entry 168 (MemoryRange (record { domain = 0; base = 0x3fffffff; size = 0x1000; flags = 1 }))
    ∷ [])

-- ---- an SRAT with three ranges that overlap

abbrev pub overlapping_bytes : List ℕ
overlapping_bytes =
    srat_table 168 162
    (1 ∷ 40 ∷ 0 ∷ 0 ∷ 0 ∷ 0 ∷ 0 ∷ 0 ∷ 0 ∷ 0x10 ∷ 0 ∷ 0 ∷ 0 ∷ 0 ∷ 0 ∷ 0 ∷ 0 ∷ 0x20 ∷ 0 ∷ 0 ∷ 0 ∷ 0 ∷ 0 ∷ 0 ∷ 0 ∷ 0 ∷ 0 ∷ 0 ∷ 1 ∷ 0 ∷ 0 ∷ 0 ∷ 0 ∷ 0 ∷ 0 ∷ 0 ∷ 0 ∷ 0 ∷ 0 ∷ 0
    ∷ 1 ∷ 40 ∷ 0 ∷ 0 ∷ 0 ∷ 0 ∷ 0 ∷ 0 ∷ 0 ∷ 0 ∷ 0 ∷ 0 ∷ 0 ∷ 0 ∷ 0 ∷ 0 ∷ 0 ∷ 0x20 ∷ 0 ∷ 0 ∷ 0 ∷ 0 ∷ 0 ∷ 0 ∷ 0 ∷ 0 ∷ 0 ∷ 0 ∷ 1 ∷ 0 ∷ 0 ∷ 0 ∷ 0 ∷ 0 ∷ 0 ∷ 0 ∷ 0 ∷ 0 ∷ 0 ∷ 0
    ∷ 1 ∷ 40 ∷ 0 ∷ 0 ∷ 0 ∷ 0 ∷ 0 ∷ 0 ∷ 0 ∷ 0x10 ∷ 0 ∷ 0 ∷ 0 ∷ 0 ∷ 0 ∷ 0 ∷ 0 ∷ 8 ∷ 0 ∷ 0 ∷ 0 ∷ 0 ∷ 0 ∷ 0 ∷ 0 ∷ 0 ∷ 0 ∷ 0 ∷ 1 ∷ 0 ∷ 0 ∷ 0 ∷ 0 ∷ 0 ∷ 0 ∷ 0 ∷ 0 ∷ 0 ∷ 0 ∷ 0
    ∷ [])

abbrev pub overlapping_ranges : SratContents
overlapping_ranges =
    said_srat 168
    (placed_entry 48 (MemoryRange (record { domain = 0; base = 0x1000; size = 0x2000; flags = 1 }))
    ∷ placed_entry 88 (MemoryRange (record { domain = 0; base = 0; size = 0x2000; flags = 1 }))
    ∷ placed_entry 128 (MemoryRange (record { domain = 0; base = 0x1000; size = 0x800; flags = 1 }))
    ∷ [])

-- ---- an SRAT with four ranges of the same addresses, the first two hot-pluggable

abbrev pub hot_ranges_bytes : List ℕ
hot_ranges_bytes =
    srat_table 208 116
    (1 ∷ 40 ∷ 0 ∷ 0 ∷ 0 ∷ 0 ∷ 0 ∷ 0 ∷ 0 ∷ 0 ∷ 0 ∷ 0 ∷ 0 ∷ 0 ∷ 0 ∷ 0 ∷ 0 ∷ 0x10 ∷ 0 ∷ 0 ∷ 0 ∷ 0 ∷ 0 ∷ 0 ∷ 0 ∷ 0 ∷ 0 ∷ 0 ∷ 3 ∷ 0 ∷ 0 ∷ 0 ∷ 0 ∷ 0 ∷ 0 ∷ 0 ∷ 0 ∷ 0 ∷ 0 ∷ 0
    ∷ 1 ∷ 40 ∷ 0 ∷ 0 ∷ 0 ∷ 0 ∷ 0 ∷ 0 ∷ 0 ∷ 0 ∷ 0 ∷ 0 ∷ 0 ∷ 0 ∷ 0 ∷ 0 ∷ 0 ∷ 0x10 ∷ 0 ∷ 0 ∷ 0 ∷ 0 ∷ 0 ∷ 0 ∷ 0 ∷ 0 ∷ 0 ∷ 0 ∷ 3 ∷ 0 ∷ 0 ∷ 0 ∷ 0 ∷ 0 ∷ 0 ∷ 0 ∷ 0 ∷ 0 ∷ 0 ∷ 0
    ∷ 1 ∷ 40 ∷ 0 ∷ 0 ∷ 0 ∷ 0 ∷ 0 ∷ 0 ∷ 0 ∷ 0 ∷ 0 ∷ 0 ∷ 0 ∷ 0 ∷ 0 ∷ 0 ∷ 0 ∷ 0x10 ∷ 0 ∷ 0 ∷ 0 ∷ 0 ∷ 0 ∷ 0 ∷ 0 ∷ 0 ∷ 0 ∷ 0 ∷ 1 ∷ 0 ∷ 0 ∷ 0 ∷ 0 ∷ 0 ∷ 0 ∷ 0 ∷ 0 ∷ 0 ∷ 0 ∷ 0
    ∷ 1 ∷ 40 ∷ 0 ∷ 0 ∷ 0 ∷ 0 ∷ 0 ∷ 0 ∷ 0 ∷ 0 ∷ 0 ∷ 0 ∷ 0 ∷ 0 ∷ 0 ∷ 0 ∷ 0 ∷ 0x10 ∷ 0 ∷ 0 ∷ 0 ∷ 0 ∷ 0 ∷ 0 ∷ 0 ∷ 0 ∷ 0 ∷ 0 ∷ 1 ∷ 0 ∷ 0 ∷ 0 ∷ 0 ∷ 0 ∷ 0 ∷ 0 ∷ 0 ∷ 0 ∷ 0 ∷ 0
    ∷ [])

abbrev pub hot_ranges : SratContents
hot_ranges =
    said_srat 208
    (placed_entry 48 (MemoryRange (record { domain = 0; base = 0; size = 0x1000; flags = 3 }))
    ∷ placed_entry 88 (MemoryRange (record { domain = 0; base = 0; size = 0x1000; flags = 3 }))
    ∷ placed_entry 128 (MemoryRange (record { domain = 0; base = 0; size = 0x1000; flags = 1 }))
    ∷ placed_entry 168 (MemoryRange (record { domain = 0; base = 0; size = 0x1000; flags = 1 }))
    ∷ [])

-- ---- an SRAT whose entries have a fault each, and a byte that is none

abbrev pub faulty_srat_bytes : List ℕ
faulty_srat_bytes =
    srat_table 105 138
    (1 ∷ 16 ∷ 0 ∷ 0 ∷ 0 ∷ 0 ∷ 0 ∷ 0 ∷ 0 ∷ 0 ∷ 0 ∷ 0 ∷ 0 ∷ 0 ∷ 0 ∷ 0
    ∷ 1 ∷ 40 ∷ 0 ∷ 0 ∷ 0 ∷ 0 ∷ 0 ∷ 0 ∷ 0 ∷ 0xf0 ∷ 0xff ∷ 0xff ∷ 0xff ∷ 0xff ∷ 0xff ∷ 0xff ∷ 1 ∷ 0x10 ∷ 0 ∷ 0 ∷ 0 ∷ 0 ∷ 0 ∷ 0 ∷ 0 ∷ 0 ∷ 0 ∷ 0 ∷ 1 ∷ 0 ∷ 0 ∷ 0 ∷ 0 ∷ 0 ∷ 0 ∷ 0 ∷ 0 ∷ 0 ∷ 0 ∷ 0
    ∷ 7
    ∷ [])

abbrev pub faulty_srat : SratContents
faulty_srat =
    record {
      size = 105;
      entries = placed_entry 48 (Opaque (1 ∷ 16 ∷ 0 ∷ 0 ∷ 0 ∷ 0 ∷ 0 ∷ 0 ∷ 0 ∷ 0 ∷ 0 ∷ 0 ∷ 0 ∷ 0 ∷ 0 ∷ 0 ∷ []))
          ∷ placed_entry 64 (MemoryRange (record { domain = 0; base = 0xfffffffffffff000; size = 0x1001; flags = 1 }))
          ∷ [];
      cut = Some 104;
    }

-- ---- what they state

-- these SRATs
abbrev pub example_srats : List (List ℕ)
example_srats = two_processors_bytes ∷ four_ranges_bytes ∷ overlapping_bytes ∷ hot_ranges_bytes ∷ faulty_srat_bytes ∷ []

-- what the SRATs say
pub record AreSratContents : Type 0 where
  pub valid : All IsValidExample example_srats
  pub processors_say : srat_contents two_processors_bytes ≡ two_processors
  pub ranges_say : srat_contents four_ranges_bytes ≡ four_ranges
  pub overlapping_say : srat_contents overlapping_bytes ≡ overlapping_ranges
  pub hot_ranges_say : srat_contents hot_ranges_bytes ≡ hot_ranges
  pub faulty_says : srat_contents faulty_srat_bytes ≡ faulty_srat

-- the faults of the SRATs; an SRAT of 40 bytes is too short
pub record AreSratFaults : Type 0 where
  pub short : SratFault (srat_contents (table srat_signature 40 1 8 (1 ∷ 0 ∷ 0 ∷ 0 ∷ []))) code.SratShort 0 0 0
  pub cut : SratFault (srat_contents faulty_srat_bytes) code.SratEntryCut 0x68 0 0
  pub size : SratFault (srat_contents faulty_srat_bytes) code.SratEntryLength 0x30 0 0
  pub past_end : SratFault (srat_contents faulty_srat_bytes) code.RangePastEnd 0x40 0 0
  pub overlap : (h : HotPlug) → RangeFault h (srat_contents four_ranges_bytes) code.Overlap 0x80 0xa8 0x3fffffff
  pub exchanged : (h : HotPlug) → RangeFault h (srat_contents four_ranges_bytes) code.Overlap 0xa8 0x80 0x3fffffff
  pub least : RangeFault Counted (srat_contents overlapping_bytes) code.Overlap 0x58 0x30 0x1000
  pub counted : RangeFault Counted (srat_contents hot_ranges_bytes) code.Overlap 0x30 0x80 0
  pub apart : RangeFault Apart (srat_contents hot_ranges_bytes) code.Overlap 0x80 0xa8 0
  pub not_mixed : ¬ RangeFault Apart (srat_contents hot_ranges_bytes) code.Overlap 0x30 0x80 0

-- the overlap that is reported
pub record AreFirstOverlaps : Type 0 where
  pub addresses : IsFirstOverlap Counted overlapping_ranges 0x58 0x30 0x1000
  pub counted : IsFirstOverlap Counted hot_ranges 0x30 0x58 0
  pub apart : IsFirstOverlap Apart hot_ranges 0x80 0xa8 0

-- the SRAT with two processors has no fault of stage 9
abbrev pub HasNoSratFault : Type 0
HasNoSratFault = (fault : Code) (at other point : ℕ) → ¬ SratFault (srat_contents two_processors_bytes) fault at other point
