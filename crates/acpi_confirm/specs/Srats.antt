-- Conditions on an entry of an SRAT (ACPI 6.5, 5.2.16).
use Rattle.std.specs.Prelude.{◌≡◌, ◌≤◌, ◌<◌, ◌+◌, ℕ, length, true}
use Rattle.acpi_base.specs.Srat.{is_enabled, is_hot_pluggable}
use Rattle.acpi_base.specs.Srat as said
use Rattle.acpi_base.specs.declared.policy.HotPlug.{HotPlug}
use Rattle.acpi_base.specs.declared.policy.HotPlug.TheVariants.{Counted, Apart}
use Rattle.acpi_confirm.specs.declared.srat.SratEntry.{SratEntry}
use Rattle.acpi_confirm.specs.declared.srat.SratEntry.TheVariants as entry

abbrev pub srat_value : SratEntry → said.SratEntry
srat_value (entry.ApicDomain domain apic_id flags eid clock_domain) = said.ApicDomain (record { domain = domain; apic_id = apic_id; flags = flags; eid = eid; clock_domain = clock_domain })
srat_value (entry.MemoryRange domain base size flags) = said.MemoryRange (record { domain = domain; base = base; size = size; flags = flags })
srat_value (entry.X2apicDomain domain x2apic_id flags clock_domain) = said.X2apicDomain (record { domain = domain; x2apic_id = x2apic_id; flags = flags; clock_domain = clock_domain })
srat_value (entry.Opaque bytes) = said.Opaque bytes.now

-- if it is not of a known type, it still has a type
abbrev pub HasType : said.SratEntry → Type 0
HasType (said.Opaque e) = 1 ≤ length e
HasType _ = Unit {0}

-- the entry is an enabled range with these flags, and covers the address x
abbrev pub CoversWith : ℕ → ℕ → said.SratEntry → Type 0
CoversWith x flags (said.MemoryRange v) = (is_enabled v.flags ≡ true) × (v.base ≤ x) × (x < v.base + v.size) × (v.flags ≡ flags)
CoversWith x flags _ = ⊥

-- two ranges with these flags are compared
abbrev pub AreCompared : HotPlug → ℕ → ℕ → Type 0
AreCompared Counted one other = Unit {0}
AreCompared Apart one other = is_hot_pluggable one ≡ is_hot_pluggable other
