-- What the examples of advice state, and the MADTs that several of them have (ACPI 6.5, 5.2.12).
use Rattle.std.specs.Prelude.{ℕ, ◌+◌, [], ◌∷◌, Some}
use Rattle.acpi_base.specs.Madt.{MadtEntry, LocalApic, MadtContents}
use Rattle.acpi_examples.specs.Tables.{placed_entry}
use Rattle.acpi_examples.specs.Madts.{said_madt}

-- a rule that is broken at numbers with P is kept
abbrev pub IsKept : (ℕ → ℕ → ℕ → Type 0) → Type 0
IsKept P = (at other point : ℕ) → ¬ P at other point

-- a MADT with this entry alone, of so many bytes
abbrev pub one_entry : ℕ → MadtEntry → MadtContents
one_entry size entry = said_madt (44 + size) (placed_entry 44 entry ∷ [])

-- a MADT with two entries, of so many bytes each
abbrev pub two_entries : ℕ → MadtEntry → ℕ → MadtEntry → MadtContents
two_entries size entry other_size other =
    said_madt (44 + size + other_size) (placed_entry 44 entry ∷ placed_entry (44 + size) other ∷ [])

-- a processor of UID 3 and APIC ID 5 with these flags (5.2.12.2)
abbrev pub processor : ℕ → MadtEntry
processor flags = LocalApic (record { uid = 3; apic_id = 5; flags = flags })

-- a MADT of one byte more, at which no entry can begin
abbrev pub cut_madt : MadtContents → MadtContents
cut_madt c =
    record { size = c.size + 1; address = c.address; flags = c.flags; entries = c.entries; cut = Some c.size }
