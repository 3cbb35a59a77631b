-- What the views of a FADT and a FACS return (ACPI 6.5, 5.2.9, 5.2.10), as the plain values of the definitions.
use Rattle.std.specs.Prelude.{ℕ, List}
use Rattle.acpi_base.specs.Fadt.{BlockValue, NoBlock, GasBlock, PortBlock}
use Rattle.acpi_read.specs.Structures.{gas_value}
use Rattle.acpi_read.specs.declared.fadt.Block.{Block}
use Rattle.acpi_read.specs.declared.fadt.Block.TheVariants as block

-- the contents of a register block's fields
abbrev pub block_view_value : Block → BlockValue
block_view_value block.None = NoBlock
block_view_value (block.Gas g) = GasBlock (gas_value g)
block_view_value (block.Port address bytes) = PortBlock address bytes

-- a FACS: its address and all its bytes
pub record FacsValue : Type 0 where
  pub address : ℕ
  pub bytes : List ℕ
