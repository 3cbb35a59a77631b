-- Examples of advice on single fields and blocks of the FADT: each rule broken, and barely kept (ACPI 6.5, 5.2.9).
use Rattle.std.specs.Prelude.{ℕ, ◌+◌, List, ◌∷◌, ◌++◌, take, drop}
use Rattle.acpi_lint.specs.Rules.FadtBlocks.{IsPortPastEnd}
use Rattle.acpi_examples.specs.Advice.{IsKept}
use Rattle.acpi_examples.specs.AdviceFadt.{plain_fadt}

-- ---- the FADTs

-- the table with this byte at an offset
abbrev pub with_byte : ℕ → ℕ → List ℕ → List ℕ
with_byte offset byte whole = take offset whole ++ byte ∷ drop (offset + 1) whole

-- a FADT of so many bytes, all 0 after its header, and one with this byte, with two, and with three of them
abbrev pub zeros : ℕ → List ℕ
zeros size = plain_fadt 3 size

abbrev pub one_byte : ℕ → ℕ → ℕ → List ℕ
one_byte size a x = with_byte a x (zeros size)

abbrev pub two_bytes : ℕ → ℕ → ℕ → ℕ → ℕ → List ℕ
two_bytes size a x b y = with_byte b y (one_byte size a x)

abbrev pub three_bytes : ℕ → ℕ → ℕ → ℕ → ℕ → ℕ → ℕ → List ℕ
three_bytes size a x b y c z = with_byte c z (two_bytes size a x b y)

-- one of reduced hardware, of so many bytes, with RESET_REG in system I/O; the lower two bytes of its address are
-- this, and the third one that
abbrev pub reset_fadt : ℕ → ℕ → ℕ → List ℕ
reset_fadt size low third =
    with_byte 121 low (with_byte 120 low (with_byte 114 0x10 (three_bytes size 113 4 116 1 122 third)))

-- ---- what they state

-- PM1a_EVT, of 4 bytes from 0xfffd on, and SMI_CMD and, on reduced hardware, RESET_REG at 0x10000; not so from 0xfffc
-- on, at 0xffff, or in a table of 128 bytes
pub record ArePortsPastEnd : Type 0 where
  pub block : IsPortPastEnd (three_bytes 116 56 0xfd 57 0xff 88 4) 56 4 0xfffd
  pub smi : IsPortPastEnd (one_byte 116 50 1) 48 1 0x10000
  pub reset : IsPortPastEnd (reset_fadt 129 0 1) 116 1 0x10000
  pub last : IsKept (IsPortPastEnd (with_byte 48 0xff (with_byte 49 0xff (three_bytes 116 56 0xfc 57 0xff 88 4))))
  pub reset_last : IsKept (IsPortPastEnd (reset_fadt 129 0xff 0))
  pub reset_cut : IsKept (IsPortPastEnd (reset_fadt 128 0 1))

-- all of them
pub record AreFadtFieldsAdvised : Type 0 where
  pub ports : ArePortsPastEnd
