-- Advice on the entries of the MCFG (PCI Firmware Specification 3.3, 4.1.2), of its bytes. Which entries count, a constant of
-- `src/rows/mcfg.rt` says.
use Rattle.std.specs.Prelude.{◌≡◌, ℕ, ◌+◌, ◌-◌, ◌*◌, ◌/◌, ◌%◌, ◌^◌, List, map, min, nat_lt, if◌then◌else◌, Option, Some, None}
use Rattle.acpi_rules.specs.Cases.{case_said}
use Rattle.acpi_rules.specs.Numbers.{GivenIn}
use Rattle.acpi_rules.specs.Overlaps.{IsOverlap}
use Rattle.acpi_rules.specs.declared.numbered.Numbered.{Numbered}
use Rattle.acpi_rules.specs.declared.overlap.Range.TheVariants as range
use Rattle.acpi_lint.specs.Rules.Entries.{alone}
use Rattle.acpi_lint.specs.declared.rows.mcfg.TheConstants.{ECAMS}
use Rattle.acpi_lint.specs.declared.rows.mcfg_fields.TheConstants.{MCFG_ENTRIES}

-- the address of a bus in the memory that begins at a base address: each has 1 MiB
abbrev pub bus_address : ℕ → ℕ → ℕ
bus_address base bus = base + 0x100000 * bus

-- the ECAM of an entry, whose base address is e.number, and whose End Bus Number and Start Bus Number are the two bytes of e.value:
-- its first address, and as the value its last one, up to 2 ^ 64 - 1; there is none if it begins behind that
unfoldable pub ecam_of : Numbered → Option Numbered
ecam_of e =
    let start = bus_address e.number (e.value % 256) in
    let end = bus_address e.number (e.value / 256 + 1) in
    if nat_lt start (2 ^ 64) then Some (record { number = start; at = e.at; value = min end (2 ^ 64) - 1 }) else None

-- this is the ECAM of an entry
abbrev pub IsEcam : List ℕ → Numbered → Type 0
IsEcam mcfg g = (e : Numbered) × GivenIn (alone mcfg) MCFG_ENTRIES (map case_said ECAMS.now) e × (ecam_of e ≡ Some g)

-- the ECAMs of the entries at `at` and `other` share an address: `point` is the lowest one
abbrev pub IsEcamOverlap : List ℕ → ℕ → ℕ → ℕ → Type 0
IsEcamOverlap mcfg = IsOverlap range.Last (IsEcam mcfg)
