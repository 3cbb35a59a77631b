-- The FADT (ACPI 6.5, 5.2.9): its fields, its blocks, and when it is valid. Offsets are from its start.
use Rattle.std.specs.Prelude.{◌≡◌, ◌≢◌, ℕ, ◌+◌, ◌*◌, ◌/◌, ◌%◌, ◌^◌, ◌<◌, ◌≤◌, ◌⊎◌, Bool, true, false, not, List, [], ◌∷◌, length, slice_get, slice_index, Option, Some, None, nat_le, ◌==◌, ◌&&◌, if◌then◌else◌, unwrap_or}
use Rattle.std.specs.Option.{option_and_then, option_map_or}
use Rattle.acpi_base.specs.Layouts.{Part, NumberOf, PartValue, Number}
use Rattle.acpi_base.specs.Memory.{Memory}
use Rattle.acpi_base.specs.Number.{field}
use Rattle.acpi_base.specs.Listed.{fadt_signature, IsListedTable, ListsNone}
use Rattle.acpi_base.specs.declared.code.Code.{Code}
use Rattle.acpi_base.specs.declared.code.Code.TheVariants as code

-- ---- fields

-- where a field begins, and how many bytes it has
pub record FieldPlace : Type 0 where
  pub offset : ℕ
  pub width : ℕ

abbrev pub place : ℕ → ℕ → FieldPlace
place offset width = record { offset = offset; width = width }

-- the fields that are numbers of 1, 2 or 4 bytes, in the standard's order (table 5.9), from 0 on
abbrev pub fadt_places : List FieldPlace
fadt_places =
    place 36 4 ∷  -- 0 FIRMWARE_CTRL
    place 40 4 ∷  -- 1 DSDT
    place 44 1 ∷  -- 2 reserved
    place 45 1 ∷  -- 3 Preferred_PM_Profile
    place 46 2 ∷  -- 4 SCI_INT
    place 48 4 ∷  -- 5 SMI_CMD
    place 52 1 ∷  -- 6 ACPI_ENABLE
    place 53 1 ∷  -- 7 ACPI_DISABLE
    place 54 1 ∷  -- 8 S4BIOS_REQ
    place 55 1 ∷  -- 9 PSTATE_CNT
    place 56 4 ∷  -- 10 PM1a_EVT_BLK
    place 60 4 ∷  -- 11 PM1b_EVT_BLK
    place 64 4 ∷  -- 12 PM1a_CNT_BLK
    place 68 4 ∷  -- 13 PM1b_CNT_BLK
    place 72 4 ∷  -- 14 PM2_CNT_BLK
    place 76 4 ∷  -- 15 PM_TMR_BLK
    place 80 4 ∷  -- 16 GPE0_BLK
    place 84 4 ∷  -- 17 GPE1_BLK
    place 88 1 ∷  -- 18 PM1_EVT_LEN
    place 89 1 ∷  -- 19 PM1_CNT_LEN
    place 90 1 ∷  -- 20 PM2_CNT_LEN
    place 91 1 ∷  -- 21 PM_TMR_LEN
    place 92 1 ∷  -- 22 GPE0_BLK_LEN
    place 93 1 ∷  -- 23 GPE1_BLK_LEN
    place 94 1 ∷  -- 24 GPE1_BASE
    place 95 1 ∷  -- 25 CST_CNT
    place 96 2 ∷  -- 26 P_LVL2_LAT
    place 98 2 ∷  -- 27 P_LVL3_LAT
    place 100 2 ∷  -- 28 FLUSH_SIZE
    place 102 2 ∷  -- 29 FLUSH_STRIDE
    place 104 1 ∷  -- 30 DUTY_OFFSET
    place 105 1 ∷  -- 31 DUTY_WIDTH
    place 106 1 ∷  -- 32 DAY_ALRM
    place 107 1 ∷  -- 33 MON_ALRM
    place 108 1 ∷  -- 34 CENTURY
    place 109 2 ∷  -- 35 IAPC_BOOT_ARCH
    place 111 1 ∷  -- 36 reserved
    place 112 4 ∷  -- 37 Flags
    place 128 1 ∷  -- 38 RESET_VALUE
    place 129 2 ∷  -- 39 ARM_BOOT_ARCH
    place 131 1 ∷  -- 40 minor version
    []

-- whether a field that ends before this offset lies completely within the table's Length
abbrev pub has_field : List ℕ → ℕ → Bool
has_field whole end = nat_le end (length whole)

-- the number in the field with this number, if the table is long enough to have it
unfoldable pub field_number : List ℕ → ℕ → Option ℕ
field_number whole index =
    option_and_then
    (λ p. if has_field whole (p.offset + p.width) then Some (field whole p.offset p.width) else None)
    (slice_get fadt_places index)

-- whether a bit of Flags is set
unfoldable pub has_flag : List ℕ → ℕ → Bool
has_flag whole bit = field whole 112 4 / 2 ^ bit % 2 == 1

-- HW_REDUCED_ACPI: the ACPI hardware interface is not implemented
abbrev pub is_reduced : List ℕ → Bool
is_reduced whole = has_flag whole 20

-- RESET_REG_SUP: the reset register may be used
abbrev pub has_reset : List ℕ → Bool
has_reset whole = has_flag whole 10

-- ---- addresses

-- the 8-byte address at `offset`, of a field that ends at `end`, if the table has that field and the address is not 0
unfoldable pub wide_address : List ℕ → ℕ → ℕ → Option ℕ
wide_address whole end offset =
    if has_field whole end && not (field whole offset 8 == 0) then Some (field whole offset 8) else None

-- an X_ address that is present and not 0 takes precedence over the field of 4 bytes
abbrev pub address_of : List ℕ → ℕ → ℕ → ℕ → ℕ
address_of whole end offset narrow = unwrap_or (wide_address whole end offset) (field whole narrow 4)

-- the FACS's address, from X_FIRMWARE_CTRL or FIRMWARE_CTRL; 0 for none
abbrev pub facs_address : List ℕ → ℕ
facs_address whole = address_of whole 140 132 36

-- the DSDT's address, from X_DSDT or DSDT; 0 for none
abbrev pub dsdt_address : List ℕ → ℕ
dsdt_address whole = address_of whole 148 140 40

-- ---- register blocks

-- a generic address structure (5.2.3.2)
pub record GasValue : Type 0 where
  pub space : ℕ
  pub bit_width : ℕ
  pub bit_offset : ℕ
  pub access_size : ℕ
  pub address : ℕ

-- the one at an offset
abbrev pub gas_at : List ℕ → ℕ → GasValue
gas_at whole offset =
    record {
      space = field whole offset 1;
      bit_width = field whole (offset + 1) 1;
      bit_offset = field whole (offset + 2) 1;
      access_size = field whole (offset + 3) 1;
      address = field whole (offset + 4) 8;
    }

-- its parts in order
abbrev pub gas_parts : List Part
gas_parts =
    NumberOf 1 ∷  -- space
    NumberOf 1 ∷  -- bit_width
    NumberOf 1 ∷  -- bit_offset
    NumberOf 1 ∷  -- access_size
    NumberOf 8 ∷  -- address
    []

-- their values
abbrev pub gas_values : GasValue → List PartValue
gas_values v = Number v.space ∷ Number v.bit_width ∷ Number v.bit_offset ∷ Number v.access_size ∷ Number v.address ∷ []

-- what a register block is: none, a generic address, or a system I/O port and its number of bytes
pub data BlockValue : Type 0 where
  NoBlock : BlockValue
  GasBlock : GasValue → BlockValue
  PortBlock : ℕ → ℕ → BlockValue

-- the offsets of the blocks' length bytes: PM1a_EVT, PM1b_EVT, PM1a_CNT, PM1b_CNT, PM2_CNT, PM_TMR, GPE0, GPE1
abbrev pub block_lengths : List ℕ
block_lengths = 88 ∷ 88 ∷ 89 ∷ 89 ∷ 90 ∷ 91 ∷ 92 ∷ 93 ∷ []

-- a port, if its address is not 0
abbrev pub port_block : ℕ → ℕ → BlockValue
port_block address bytes = if address == 0 then NoBlock else PortBlock address bytes

-- block k, in that order: the X_ structure if it is present and its address is not 0, otherwise the port of the 4-byte field
unfoldable pub block_value : List ℕ → ℕ → BlockValue
block_value whole k =
    option_map_or
    (λ address. GasBlock (gas_at whole (148 + 12 * k)))
    (wide_address whole (160 + 12 * k) (152 + 12 * k))
    (port_block (field whole (56 + 4 * k) 4) (field whole (slice_index block_lengths k) 1))

-- ---- validity

-- the register blocks' lengths in bytes, which apply if the hardware is not reduced (5.2.9)
pub record HasBlockLengths (whole : List ℕ) : Type 0 where
  pub event : 4 ≤ field whole 88 1
  pub control : 2 ≤ field whole 89 1
  pub timer : (field whole 91 1 ≡ 0) ⊎ (field whole 91 1 ≡ 4)
  pub gpe0 : field whole 92 1 % 2 ≡ 0
  pub gpe1 : field whole 93 1 % 2 ≡ 0

-- a reset register is in system memory, system I/O or PCI configuration space, and is 8 bits at bit 0 (4.8.3.6)
pub record IsResetRegister (gas : GasValue) : Type 0 where
  pub space : gas.space ≤ 2
  pub width : gas.bit_width ≡ 8
  pub offset : gas.bit_offset ≡ 0

-- the bytes of a valid FADT
pub record IsValidFadtTable (whole : List ℕ) : Type 0 where
  pub long : 116 ≤ length whole
  pub blocks : is_reduced whole ≡ false → HasBlockLengths whole
  pub reset : has_reset whole ≡ true → 129 ≤ length whole → IsResetRegister (gas_at whole 116)

-- the FADT of the set that the RSDP at p leads to
abbrev pub IsFadt : Memory → ℕ → List ℕ → Type 0
IsFadt m p whole = IsListedTable m p fadt_signature whole

-- the set lists no FADT
abbrev pub HasNoFadt : Memory → ℕ → Type 0
HasNoFadt m p = ListsNone m p fadt_signature

-- Stage 4: there is a FADT, and it is valid.
pub record IsValidFadt (m : Memory) (p : ℕ) : Type 0 where
  pub whole : List ℕ
  pub fadt : IsFadt m p whole
  pub valid : IsValidFadtTable whole

-- what is wrong with a reset register
abbrev pub IsNoResetRegister : GasValue → Type 0
IsNoResetRegister gas = (2 < gas.space) ⊎ ((gas.bit_width ≢ 8) ⊎ (gas.bit_offset ≢ 0))

-- The faults of a FADT's bytes, by their code, and the offset that each is reported at.
abbrev pub FadtTableFault : List ℕ → Code → ℕ → Type 0
FadtTableFault whole code.FadtShort at = (length whole < 116) × (at ≡ 0)
FadtTableFault whole code.PmEventLength at = (116 ≤ length whole) × (is_reduced whole ≡ false) × (field whole 88 1 < 4) × (at ≡ 88)
FadtTableFault whole code.PmControlLength at = (116 ≤ length whole) × (is_reduced whole ≡ false) × (field whole 89 1 < 2) × (at ≡ 89)
FadtTableFault whole code.PmTimerLength at = (116 ≤ length whole) × (is_reduced whole ≡ false) × (field whole 91 1 ≢ 0) × (field whole 91 1 ≢ 4) × (at ≡ 91)
FadtTableFault whole code.GpeLength at = (116 ≤ length whole) × (is_reduced whole ≡ false) × ((at ≡ 92) ⊎ (at ≡ 93)) × (field whole at 1 % 2 ≢ 0)
FadtTableFault whole code.ResetRegister at = (116 ≤ length whole) × (has_reset whole ≡ true) × (129 ≤ length whole) × IsNoResetRegister (gas_at whole 116) × (at ≡ 116)
FadtTableFault whole _ at = ⊥

-- The faults of stage 4, by their code, and the offset that each is reported at; 0 if there is no FADT.
abbrev pub FadtFault : Memory → ℕ → Code → ℕ → Type 0
FadtFault m p fault at =
    (HasNoFadt m p × (fault ≡ code.NoFadt) × (at ≡ 0))
    ⊎ ((whole : List ℕ) × IsFadt m p whole × FadtTableFault whole fault at)
