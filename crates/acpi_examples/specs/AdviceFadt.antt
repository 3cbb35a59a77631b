-- Examples of advice on the FADT: each rule broken, and kept (ACPI 6.5, 5.2.9). Checksums are 0, since no rule checks
-- them.
use Rattle.std.specs.Prelude.{◌≡◌, ℕ, ◌-◌, ◌/◌, ◌%◌, List, [], ◌∷◌, ◌++◌, replicate}
use Rattle.acpi_base.specs.Listed.{fadt_signature}
use Rattle.acpi_base.specs.Policy.{PolicyValue, inputs_of}
use Rattle.acpi_base.specs.Madt.{MadtEntry, IoApic, Override, MadtContents}
use Rattle.acpi_lint.specs.Rules.FadtAdvice.{IsSciNowhere}
use Rattle.acpi_examples.specs.Tables.{table, placed_entry}
use Rattle.acpi_examples.specs.Madts.{said_madt}
use Rattle.acpi_examples.specs.Advice.{IsKept, one_entry, two_entries, processor, cut_madt}

-- ---- the FADTs

-- a FADT of this Revision with so many bytes, 0 after its header
abbrev pub plain_fadt : ℕ → ℕ → List ℕ
plain_fadt revision size =
    fadt_signature ++ size % 256 ∷ size / 256 ∷ 0 ∷ 0 ∷ revision ∷ replicate (size - 9) 0

-- a FADT of 140 bytes with FIRMWARE_CTRL and X_FIRMWARE_CTRL in these pages of 256 bytes
abbrev pub facs_fadt : ℕ → ℕ → List ℕ
facs_fadt narrow wide =
    table fadt_signature 140 2 0 (0 ∷ narrow ∷ 0 ∷ 0 ∷ replicate 92 0 ++ 0 ∷ wide ∷ replicate 6 0)

-- a FADT of 148 bytes with DSDT and X_DSDT in these pages
abbrev pub dsdt_fadt : ℕ → ℕ → List ℕ
dsdt_fadt narrow wide =
    table fadt_signature 148 2 0
    (replicate 4 0 ++ 0 ∷ narrow ∷ 0 ∷ 0 ∷ replicate 96 0 ++ 0 ∷ wide ∷ replicate 6 0)

-- a FADT of 116 bytes with this SCI_INT and these bits 23 to 16 of its flags
abbrev pub sci_fadt : ℕ → ℕ → List ℕ
sci_fadt sci flags = table fadt_signature 116 1 0 (replicate 10 0 ++ sci ∷ 0 ∷ replicate 66 0 ++ flags ∷ 0 ∷ [])

-- ---- the MADTs

-- an I/O APIC that serves interrupt numbers from 0 on (5.2.12.3)
abbrev pub io_apic_entry : MadtEntry
io_apic_entry = IoApic (record { id = 0; address = 0xfec00000; gsi_base = 0 })

-- an override that gives interrupt 9 of a bus this number; bus 0 is ISA (5.2.12.5)
abbrev pub override : ℕ → ℕ → MadtEntry
override bus gsi = Override (record { bus = bus; source = 9; gsi = gsi; flags = 0 })

-- the I/O APIC, and an override to 24 of this bus
abbrev pub overridden : ℕ → MadtContents
overridden bus = two_entries 12 io_apic_entry 10 (override bus 24)

-- the same, and two overrides, first to 24 and then to 10
abbrev pub twice_overridden : MadtContents
twice_overridden =
    said_madt 76
    (placed_entry 44 io_apic_entry
    ∷ placed_entry 56 (override 0 24)
    ∷ placed_entry 66 (override 0 10)
    ∷ [])

-- ---- what they state

-- SCI_INT 9 has the number 24 by its first override, and SCI_INT 24 by none, which an I/O APIC with 24 inputs does
-- not serve; not so with 25, without the override, if that is of another bus, on reduced hardware, without an I/O
-- APIC, or if the MADT is cut
pub record AreScisNowhere (q : PolicyValue) : Type 0 where
  pub nowhere : inputs_of q 0xfec00000 ≡ 24 → IsSciNowhere q (sci_fadt 9 0) (overridden 0) 0x2e 0 24
  pub first : inputs_of q 0xfec00000 ≡ 24 → IsSciNowhere q (sci_fadt 9 0) twice_overridden 0x2e 0 24
  pub own : inputs_of q 0xfec00000 ≡ 24 → IsSciNowhere q (sci_fadt 24 0) (overridden 0) 0x2e 0 24
  pub served : inputs_of q 0xfec00000 ≡ 25 → IsKept (IsSciNowhere q (sci_fadt 9 0) (overridden 0))
  pub no_override : inputs_of q 0xfec00000 ≡ 24 → IsKept (IsSciNowhere q (sci_fadt 9 0) (one_entry 12 io_apic_entry))
  pub other_bus : inputs_of q 0xfec00000 ≡ 24 → IsKept (IsSciNowhere q (sci_fadt 9 0) (overridden 1))
  pub reduced : IsKept (IsSciNowhere q (sci_fadt 9 0x10) (overridden 0))
  pub no_io_apic : IsKept (IsSciNowhere q (sci_fadt 9 0) (one_entry 8 (processor 1)))
  pub cut : IsKept (IsSciNowhere q (sci_fadt 9 0) (cut_madt (overridden 0)))

-- all of them
pub record IsFadtAdvised (q : PolicyValue) : Type 0 where
  pub scis : AreScisNowhere q
