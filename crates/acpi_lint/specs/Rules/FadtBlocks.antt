-- The register blocks of a FADT (ACPI 6.5, 5.2.9), from 0 to 7: PM1a_EVT, PM1b_EVT, PM1a_CNT, PM1b_CNT, PM2_CNT, PM_TMR, GPE0 and
-- GPE1.
use Rattle.std.specs.Prelude.{◌≡◌, ℕ, ◌+◌, ◌*◌, ◌/◌, ◌^◌, ◌<◌, ◌≤◌, ◌⊎◌, List, length, slice_index, true, false, ◌==◌, if◌then◌else◌}
use Rattle.acpi_base.specs.Number.{field}
use Rattle.acpi_base.specs.Fadt.{is_reduced, has_reset, gas_at, block_lengths, BlockValue, NoBlock, GasBlock, PortBlock, block_value}

-- ---- what a block is

-- the offset of the 4-byte field of block k, and that of its X_ structure
abbrev pub block_at : ℕ → ℕ
block_at k = 56 + 4 * k

-- the address of a block; 0 for none
abbrev pub address_in : BlockValue → ℕ
address_in NoBlock = 0
address_in (GasBlock v) = v.address
address_in (PortBlock address bytes) = address

-- that of block k
abbrev pub block_address : List ℕ → ℕ → ℕ
block_address whole k = address_in (block_value whole k)

-- its length byte
abbrev pub block_length : List ℕ → ℕ → ℕ
block_length whole k = field whole (slice_index block_lengths k) 1

-- how many bytes of system I/O a block with this length byte has: as many as that says; if it is 0, as many as have the width of
-- an X_ structure, in bits; none in another address space
abbrev pub port_count : ℕ → BlockValue → ℕ
port_count length NoBlock = 0
port_count length (GasBlock v) =
    if v.space == 1 then if length == 0 then (v.bit_width + 7) / 8 else length else 0
port_count length (PortBlock address bytes) = length

-- how many bytes block k has of system I/O, from its address on
abbrev pub port_bytes : List ℕ → ℕ → ℕ
port_bytes whole k = port_count (block_length whole k) (block_value whole k)

-- ---- rules on one block: `at` is the offset of its 4-byte field

-- a block, from block `low` on, for which `Is` holds with the other two numbers
pub record OnBlock (Is : ℕ → ℕ → ℕ → Type 0) (low at other point : ℕ) : Type 0 where
  pub k : ℕ
  pub from : low ≤ k
  pub block : k < 8
  pub place : at ≡ block_at k
  pub is : Is k other point

-- ---- ports past the last one

-- these bytes of system I/O, as many as `other`, from the port `point` on, end past the last one, 0xffff
abbrev pub IsPastEnd : ℕ → ℕ → ℕ → ℕ → Type 0
IsPastEnd first bytes other point =
    (other ≡ bytes) × (point ≡ first) × (1 ≤ bytes) × (2 ^ 16 < first + bytes)

-- the same of the bytes of a register, whose field is at an offset of the table
abbrev pub IsPastEndAt : ℕ → ℕ → ℕ → ℕ → ℕ → ℕ → Type 0
IsPastEndAt offset first bytes at other point = (at ≡ offset) × IsPastEnd first bytes other point

-- SMI_CMD is a port past the last one
abbrev pub IsSmiPastEnd : List ℕ → ℕ → ℕ → ℕ → Type 0
IsSmiPastEnd whole = IsPastEndAt 48 (field whole 48 4) 1

-- block k ends past the last port
abbrev pub IsBlockPastEnd : List ℕ → ℕ → ℕ → ℕ → Type 0
IsBlockPastEnd whole k = IsPastEnd (block_address whole k) (port_bytes whole k)

-- the table has a reset register, by its flag and its Length (4.8.3.6)
abbrev pub HasResetRegister : List ℕ → Type 0
HasResetRegister whole = (has_reset whole ≡ true) × (129 ≤ length whole)

-- the table has a reset register, and it is in system I/O
abbrev pub IsResetPort : List ℕ → Type 0
IsResetPort whole = HasResetRegister whole × ((gas_at whole 116).space ≡ 1)

-- the reset register is a port past the last one
abbrev pub IsResetPastEnd : List ℕ → ℕ → ℕ → ℕ → Type 0
IsResetPastEnd whole at other point =
    IsResetPort whole
    × IsPastEndAt 116 (gas_at whole 116).address 1 at other point

-- SMI_CMD is past the last port, or a block ends past it; applies if the hardware is not reduced
abbrev pub IsFixedPastEnd : List ℕ → ℕ → ℕ → ℕ → Type 0
IsFixedPastEnd whole at other point =
    (is_reduced whole ≡ false)
    × (IsSmiPastEnd whole at other point ⊎ OnBlock (IsBlockPastEnd whole) 0 at other point)

-- SMI_CMD or a block of hardware that is not reduced, or the reset register of any, is past the last port
abbrev pub IsPortPastEnd : List ℕ → ℕ → ℕ → ℕ → Type 0
IsPortPastEnd whole at other point = IsFixedPastEnd whole at other point ⊎ IsResetPastEnd whole at other point
