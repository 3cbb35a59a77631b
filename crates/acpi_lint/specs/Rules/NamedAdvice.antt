-- Advice on what the FADT names in memory: the DSDT (ACPI 6.5, 5.2.11.1) and the FACS (5.2.10).
use Rattle.std.specs.Prelude.{◌≡◌, ◌≢◌, ℕ, ◌⊎◌, List, Some, true, false}
use Rattle.acpi_base.specs.Facs.{IsFacs}
use Rattle.acpi_base.specs.Fadt.{facs_address, dsdt_address, is_reduced}
use Rattle.acpi_base.specs.Frames.{FrameFault}
use Rattle.acpi_base.specs.Memory.{Memory, bytes_at}
use Rattle.acpi_base.specs.Number.{field, has_bit}
use Rattle.acpi_base.specs.Signature.{has_signature}
use Rattle.acpi_base.specs.Tables.{table_frame}
use Rattle.acpi_base.specs.declared.frame.Question.TheVariants as question
use Rattle.acpi_lint.specs.Rules.FixedFields.{IsAbove, IsUsed}
use Rattle.acpi_lint.specs.Rules.HeaderAdvice.{IsOddOem}
use Rattle.acpi_lint.specs.Rules.Slots.{dsdt_signature}

-- the header at a is present, and is not a DSDT's, or says a Length below 36; or the table there is complete, and its
-- checksum is wrong
abbrev pub IsBrokenDsdt : Memory → ℕ → Type 0
IsBrokenDsdt m a =
    FrameFault table_frame m a (question.Signature dsdt_signature)
    ⊎ FrameFault table_frame m a question.Length
    ⊎ FrameFault table_frame m a question.Sum

-- the DSDT that the FADT names, at `point`, has a wrong signature, Length or checksum; `at` is the field's offset
abbrev pub IsDsdtWrong : Memory → List ℕ → ℕ → ℕ → ℕ → Type 0
IsDsdtWrong m fadt at other point =
    (at ≡ 40) × (other ≡ 0) × (point ≡ dsdt_address fadt) × (point ≢ 0) × IsBrokenDsdt m point

-- these are the first 36 bytes of the DSDT that the FADT names, whatever is behind them
abbrev pub IsDsdtHeader : Memory → List ℕ → List ℕ → Type 0
IsDsdtHeader m fadt header =
    (dsdt_address fadt ≢ 0)
    × (bytes_at m (dsdt_address fadt) 36 ≡ Some header) × (has_signature header dsdt_signature ≡ true)

-- a text of that header has a byte that is no text; `at` is its offset, `point` the number there
abbrev pub IsDsdtText : Memory → List ℕ → ℕ → ℕ → ℕ → Type 0
IsDsdtText m fadt at other point = (header : List ℕ) × IsDsdtHeader m fadt header × IsOddOem header at other point

-- S4BIOS_REQ of the FADT, at 54, is a command and S4BIOS_F, bit 0 of the FACS's Flags, is clear; or the other way round
abbrev pub IsOtherS4Bios : List ℕ → List ℕ → ℕ → ℕ → ℕ → Type 0
IsOtherS4Bios fadt facs at other point =
    (at ≡ 54) × (other ≡ 0) × (point ≡ field fadt 54 1)
    × (((point ≢ 0) × (has_bit (field facs 20 4) 0 ≡ false)) ⊎ ((point ≡ 0) × (has_bit (field facs 20 4) 0 ≡ true)))

-- the same of the FACS that the FADT names, and that is valid; the hardware is not reduced
abbrev pub IsS4BiosDiffers : Memory → List ℕ → ℕ → ℕ → ℕ → Type 0
IsS4BiosDiffers m fadt at other point =
    (is_reduced fadt ≡ false) × (facs_address fadt ≢ 0)
    × ((facs : List ℕ) × IsFacs m (facs_address fadt) facs × IsOtherS4Bios fadt facs at other point)

-- a field or a reserved byte of a FACS has no meaning; `at` is its offset, `point` the number there
abbrev pub IsOddFacs : List ℕ → ℕ → ℕ → ℕ → Type 0
IsOddFacs facs at other point =
    IsAbove facs 20 4 3 at other point  -- Flags, of two bits
    ⊎ IsAbove facs 32 1 2 at other point  -- Version
    ⊎ IsUsed facs 33 36 at other point
    ⊎ IsAbove facs 36 4 1 at other point  -- OSPM Flags, of one bit
    ⊎ IsUsed facs 40 64 at other point

-- the FACS that the FADT names, and that is valid, has a field or a reserved byte without a meaning
abbrev pub IsFacsReserved : Memory → List ℕ → ℕ → ℕ → ℕ → Type 0
IsFacsReserved m fadt at other point =
    (facs_address fadt ≢ 0) × ((facs : List ℕ) × IsFacs m (facs_address fadt) facs × IsOddFacs facs at other point)
