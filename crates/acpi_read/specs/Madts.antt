-- The kinds of entries of a MADT (ACPI 6.5, 5.2.12): for each its layout, after its type and its length, and the
-- contents of an entry of the kind; and the contents of any entry.
use Rattle.std.specs.Prelude.{ℕ, List, [], ◌∷◌, slice_index}
use Rattle.acpi_base.specs.Entries.{IsEntry, IsTypeOf}
use Rattle.acpi_base.specs.Layouts.{NumberOf, Reserved, Number}
use Rattle.acpi_base.specs.Madt.{LocalApicValue, IoApicValue, OverrideValue, NmiSourceValue, LocalNmiValue, AddressOverrideValue, X2apicValue, X2apicNmiValue}
use Rattle.acpi_base.specs.Madt as said
use Rattle.acpi_base.specs.KindLayouts.{KindLayout, bytes_of}
use Rattle.acpi_read.specs.declared.madt.MadtEntry.{MadtEntry}
use Rattle.acpi_read.specs.declared.madt.MadtEntry.TheVariants as entry
use Rattle.acpi_read.specs.declared.madt.kinds.LocalApic.{LocalApic}
use Rattle.acpi_read.specs.declared.madt.kinds.IoApic.{IoApic}
use Rattle.acpi_read.specs.declared.madt.kinds.Override.{Override}
use Rattle.acpi_read.specs.declared.madt.kinds.NmiSource.{NmiSource}
use Rattle.acpi_read.specs.declared.madt.kinds.LocalNmi.{LocalNmi}
use Rattle.acpi_read.specs.declared.madt.kinds.AddressOverride.{AddressOverride}
use Rattle.acpi_read.specs.declared.madt.kinds.X2apic.{X2apic}
use Rattle.acpi_read.specs.declared.madt.kinds.X2apicNmi.{X2apicNmi}

-- ---- Processor Local APIC (5.2.12.2)

abbrev pub local_apic_layout : KindLayout LocalApicValue
local_apic_layout = record {
  kind = said.local_apic;
  rest = NumberOf 1 ∷ NumberOf 1 ∷ NumberOf 4 ∷ [];
  values = λ v. Number v.uid ∷ Number v.apic_id ∷ Number v.flags ∷ [];
}

abbrev pub local_apic_value : LocalApic → LocalApicValue
local_apic_value e = record { uid = e.uid; apic_id = e.apic_id; flags = e.flags }

-- ---- I/O APIC (5.2.12.3)

abbrev pub io_apic_layout : KindLayout IoApicValue
io_apic_layout = record {
  kind = said.io_apic;
  rest = NumberOf 1 ∷ Reserved 1 ∷ NumberOf 4 ∷ NumberOf 4 ∷ [];
  values = λ v. Number v.id ∷ Number v.address ∷ Number v.gsi_base ∷ [];
}

abbrev pub io_apic_value : IoApic → IoApicValue
io_apic_value e = record { id = e.id; address = e.address; gsi_base = e.gsi_base }

-- ---- Interrupt Source Override (5.2.12.5)

abbrev pub override_layout : KindLayout OverrideValue
override_layout = record {
  kind = said.override;
  rest = NumberOf 1 ∷ NumberOf 1 ∷ NumberOf 4 ∷ NumberOf 2 ∷ [];
  values = λ v. Number v.bus ∷ Number v.source ∷ Number v.gsi ∷ Number v.flags ∷ [];
}

abbrev pub override_value : Override → OverrideValue
override_value e = record { bus = e.bus; source = e.source; gsi = e.gsi; flags = e.flags }

-- ---- NMI Source (5.2.12.6)

abbrev pub nmi_source_layout : KindLayout NmiSourceValue
nmi_source_layout = record {
  kind = said.nmi_source;
  rest = NumberOf 2 ∷ NumberOf 4 ∷ [];
  values = λ v. Number v.flags ∷ Number v.gsi ∷ [];
}

abbrev pub nmi_source_value : NmiSource → NmiSourceValue
nmi_source_value e = record { flags = e.flags; gsi = e.gsi }

-- ---- Local APIC NMI (5.2.12.7)

abbrev pub local_nmi_layout : KindLayout LocalNmiValue
local_nmi_layout = record {
  kind = said.local_nmi;
  rest = NumberOf 1 ∷ NumberOf 2 ∷ NumberOf 1 ∷ [];
  values = λ v. Number v.uid ∷ Number v.flags ∷ Number v.lint ∷ [];
}

abbrev pub local_nmi_value : LocalNmi → LocalNmiValue
local_nmi_value e = record { uid = e.uid; flags = e.flags; lint = e.lint }

-- ---- Local APIC Address Override (5.2.12.8)

abbrev pub address_override_layout : KindLayout AddressOverrideValue
address_override_layout = record {
  kind = said.address_override;
  rest = Reserved 2 ∷ NumberOf 8 ∷ [];
  values = λ v. Number v.address ∷ [];
}

abbrev pub address_override_value : AddressOverride → AddressOverrideValue
address_override_value e = record { address = e.address }

-- ---- Processor Local x2APIC (5.2.12.12)

abbrev pub x2apic_layout : KindLayout X2apicValue
x2apic_layout = record {
  kind = said.x2apic;
  rest = Reserved 2 ∷ NumberOf 4 ∷ NumberOf 4 ∷ NumberOf 4 ∷ [];
  values = λ v. Number v.x2apic_id ∷ Number v.flags ∷ Number v.uid ∷ [];
}

abbrev pub x2apic_value : X2apic → X2apicValue
x2apic_value e = record { x2apic_id = e.x2apic_id; flags = e.flags; uid = e.uid }

-- ---- Local x2APIC NMI (5.2.12.13)

abbrev pub x2apic_nmi_layout : KindLayout X2apicNmiValue
x2apic_nmi_layout = record {
  kind = said.x2apic_nmi;
  rest = NumberOf 2 ∷ NumberOf 4 ∷ NumberOf 1 ∷ Reserved 3 ∷ [];
  values = λ v. Number v.flags ∷ Number v.uid ∷ Number v.lint ∷ [];
}

abbrev pub x2apic_nmi_value : X2apicNmi → X2apicNmiValue
x2apic_nmi_value e = record { flags = e.flags; uid = e.uid; lint = e.lint }

-- ---- entries

-- the contents of an entry
abbrev pub madt_value : MadtEntry → said.MadtEntry
madt_value (entry.LocalApic e) = said.LocalApic (local_apic_value e)
madt_value (entry.IoApic e) = said.IoApic (io_apic_value e)
madt_value (entry.Override e) = said.Override (override_value e)
madt_value (entry.NmiSource e) = said.NmiSource (nmi_source_value e)
madt_value (entry.LocalNmi e) = said.LocalNmi (local_nmi_value e)
madt_value (entry.AddressOverride e) = said.AddressOverride (address_override_value e)
madt_value (entry.X2apic e) = said.X2apic (x2apic_value e)
madt_value (entry.X2apicNmi e) = said.X2apicNmi (x2apic_nmi_value e)
madt_value (entry.Opaque bytes) = said.Opaque bytes.now

-- the bytes that are written for it: its fields, with 0 in reserved bytes
abbrev pub madt_bytes : said.MadtEntry → List ℕ
madt_bytes (said.LocalApic v) = bytes_of local_apic_layout v
madt_bytes (said.IoApic v) = bytes_of io_apic_layout v
madt_bytes (said.Override v) = bytes_of override_layout v
madt_bytes (said.NmiSource v) = bytes_of nmi_source_layout v
madt_bytes (said.LocalNmi v) = bytes_of local_nmi_layout v
madt_bytes (said.AddressOverride v) = bytes_of address_override_layout v
madt_bytes (said.X2apic v) = bytes_of x2apic_layout v
madt_bytes (said.X2apicNmi v) = bytes_of x2apic_nmi_layout v
madt_bytes (said.Opaque e) = e

-- if it is not of a known type, its type is not one of the above
abbrev pub IsOfOwnLength : said.MadtEntry → Type 0
IsOfOwnLength (said.Opaque e) = ¬ IsTypeOf said.madt_kinds (slice_index e 0)
IsOfOwnLength _ = Unit {0}

-- if it is not of a known type, its bytes are those of an entry
abbrev pub IsCompleteEntry : MadtEntry → Type 0
IsCompleteEntry (entry.Opaque bytes) = IsEntry bytes.now
IsCompleteEntry _ = Unit {0}
