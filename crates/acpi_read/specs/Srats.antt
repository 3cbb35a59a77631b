-- The kinds of entries of an SRAT (ACPI 6.5, 5.2.16): for each its layout, after its type and its length, and the
-- contents of an entry of the kind; and the contents of any entry.
use Rattle.std.specs.Prelude.{◌/◌, ◌%◌, ℕ, List, [], ◌∷◌, slice_index}
use Rattle.acpi_base.specs.Entries.{IsEntry, IsTypeOf}
use Rattle.acpi_base.specs.Layouts.{NumberOf, Reserved, Number}
use Rattle.acpi_base.specs.Srat.{ApicDomainValue, MemoryValue, X2apicDomainValue}
use Rattle.acpi_base.specs.Srat as said
use Rattle.acpi_base.specs.KindLayouts.{KindLayout, bytes_of}
use Rattle.acpi_read.specs.declared.srat.SratEntry.{SratEntry}
use Rattle.acpi_read.specs.declared.srat.SratEntry.TheVariants as entry
use Rattle.acpi_read.specs.declared.srat.kinds.ApicDomain.{ApicDomain}
use Rattle.acpi_read.specs.declared.srat.kinds.MemoryRange.{MemoryRange}
use Rattle.acpi_read.specs.declared.srat.kinds.X2apicDomain.{X2apicDomain}

-- ---- Processor Local APIC Affinity (5.2.16.1)

abbrev pub apic_domain_layout : KindLayout ApicDomainValue
apic_domain_layout = record {
  kind = said.apic_domain;
  rest = NumberOf 1 ∷ NumberOf 1 ∷ NumberOf 4 ∷ NumberOf 1 ∷ NumberOf 1 ∷ NumberOf 1 ∷ NumberOf 1 ∷ NumberOf 4 ∷ [];
  values =
      λ v.
      Number (v.domain % 256) ∷ Number v.apic_id ∷ Number v.flags ∷ Number v.eid ∷ Number (v.domain / 256 % 256)
      ∷ Number (v.domain / 65536 % 256)
      ∷ Number (v.domain / 16777216)
      ∷ Number v.clock_domain
      ∷ [];
}

abbrev pub apic_domain_value : ApicDomain → ApicDomainValue
apic_domain_value e =
    record { domain = e.domain; apic_id = e.apic_id; flags = e.flags; eid = e.eid; clock_domain = e.clock_domain }

-- ---- Memory Affinity (5.2.16.2)

abbrev pub memory_range_layout : KindLayout MemoryValue
memory_range_layout = record {
  kind = said.memory_range;
  rest = NumberOf 4 ∷ Reserved 2 ∷ NumberOf 8 ∷ NumberOf 8 ∷ Reserved 4 ∷ NumberOf 4 ∷ Reserved 8 ∷ [];
  values = λ v. Number v.domain ∷ Number v.base ∷ Number v.size ∷ Number v.flags ∷ [];
}

abbrev pub memory_range_value : MemoryRange → MemoryValue
memory_range_value e = record { domain = e.domain; base = e.base; size = e.size; flags = e.flags }

-- ---- Processor Local x2APIC Affinity (5.2.16.3)

abbrev pub x2apic_domain_layout : KindLayout X2apicDomainValue
x2apic_domain_layout = record {
  kind = said.x2apic_domain;
  rest = Reserved 2 ∷ NumberOf 4 ∷ NumberOf 4 ∷ NumberOf 4 ∷ NumberOf 4 ∷ Reserved 4 ∷ [];
  values = λ v. Number v.domain ∷ Number v.x2apic_id ∷ Number v.flags ∷ Number v.clock_domain ∷ [];
}

abbrev pub x2apic_domain_value : X2apicDomain → X2apicDomainValue
x2apic_domain_value e =
    record { domain = e.domain; x2apic_id = e.x2apic_id; flags = e.flags; clock_domain = e.clock_domain }

-- ---- entries

-- the contents of an entry
abbrev pub srat_value : SratEntry → said.SratEntry
srat_value (entry.ApicDomain e) = said.ApicDomain (apic_domain_value e)
srat_value (entry.MemoryRange e) = said.MemoryRange (memory_range_value e)
srat_value (entry.X2apicDomain e) = said.X2apicDomain (x2apic_domain_value e)
srat_value (entry.Opaque bytes) = said.Opaque bytes.now

-- the bytes that are written for it: its fields, with 0 in reserved bytes
abbrev pub srat_bytes : said.SratEntry → List ℕ
srat_bytes (said.ApicDomain v) = bytes_of apic_domain_layout v
srat_bytes (said.MemoryRange v) = bytes_of memory_range_layout v
srat_bytes (said.X2apicDomain v) = bytes_of x2apic_domain_layout v
srat_bytes (said.Opaque e) = e

-- if it is not of a known type, its type is not one of the above
abbrev pub IsOfOwnLength : said.SratEntry → Type 0
IsOfOwnLength (said.Opaque e) = ¬ IsTypeOf said.srat_kinds (slice_index e 0)
IsOfOwnLength _ = Unit {0}

-- if it is not of a known type, its bytes are those of an entry
abbrev pub IsCompleteEntry : SratEntry → Type 0
IsCompleteEntry (entry.Opaque bytes) = IsEntry bytes.now
IsCompleteEntry _ = Unit {0}
