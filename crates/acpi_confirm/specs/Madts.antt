-- Conditions on an entry of a MADT (ACPI 6.5, 5.2.12).
use Rattle.std.specs.Prelude.{◌≤◌, ◌<◌, ◌+◌, ℕ, length}
use Rattle.acpi_base.specs.Madt as said
use Rattle.acpi_base.specs.Policy.{PolicyValue, inputs_of}
use Rattle.acpi_confirm.specs.declared.madt.MadtEntry.{MadtEntry}
use Rattle.acpi_confirm.specs.declared.madt.MadtEntry.TheVariants as entry

abbrev pub madt_value : MadtEntry → said.MadtEntry
madt_value (entry.LocalApic uid apic_id flags) = said.LocalApic (record { uid = uid; apic_id = apic_id; flags = flags })
madt_value (entry.IoApic id address gsi_base) = said.IoApic (record { id = id; address = address; gsi_base = gsi_base })
madt_value (entry.Override bus source gsi flags) = said.Override (record { bus = bus; source = source; gsi = gsi; flags = flags })
madt_value (entry.NmiSource flags gsi) = said.NmiSource (record { flags = flags; gsi = gsi })
madt_value (entry.LocalNmi uid flags lint) = said.LocalNmi (record { uid = uid; flags = flags; lint = lint })
madt_value (entry.AddressOverride address) = said.AddressOverride (record { address = address })
madt_value (entry.X2apic x2apic_id flags uid) = said.X2apic (record { x2apic_id = x2apic_id; flags = flags; uid = uid })
madt_value (entry.X2apicNmi flags uid lint) = said.X2apicNmi (record { flags = flags; uid = uid; lint = lint })
madt_value (entry.Opaque bytes) = said.Opaque bytes.now

-- if it is not of a known type, it still has a type
abbrev pub HasType : said.MadtEntry → Type 0
HasType (said.Opaque e) = 1 ≤ length e
HasType _ = Unit {0}

-- the entry is an I/O APIC that serves the interrupt number g
abbrev pub ServesGsi : PolicyValue → ℕ → said.MadtEntry → Type 0
ServesGsi q g (said.IoApic v) = (v.gsi_base ≤ g) × (g < v.gsi_base + inputs_of q v.address)
ServesGsi q g _ = ⊥

-- the entry is not of a known type
abbrev pub IsOpaque : said.MadtEntry → Type 0
IsOpaque (said.Opaque e) = Unit {0}
IsOpaque _ = ⊥
