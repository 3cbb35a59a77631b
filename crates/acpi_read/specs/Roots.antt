-- What a view of a root table represents (ACPI 6.5, 5.2.7, 5.2.8).
use Rattle.std.specs.Prelude.{◌≡◌, ℕ, ◌-◌, ◌/◌, List, length, Some}
use Rattle.acpi_base.specs.Memory.{Memory}
use Rattle.acpi_base.specs.Rsdp.{Addresses}
use Rattle.acpi_base.specs.Root as roots
use Rattle.acpi_base.specs.Root.{chosen_root, IsRoot, IsRootTable, IsValidRootTable}
use Rattle.acpi_read.specs.declared.root.RootPlace.{RootPlace}

-- a root table: its address, the width of its slots in bytes, and all its bytes
pub record RootValue : Type 0 where
  pub address : ℕ
  pub width : ℕ
  pub bytes : List ℕ

-- how many complete slots a root table has
abbrev pub slots_of : RootValue → ℕ
slots_of root = (length root.bytes - 36) / root.width

-- of the addresses named, this root table is the one to use, and it is valid
pub record IsValidNamedRoot (m : Memory) (named : Addresses) (root : RootValue) : Type 0 where
  pub chosen : chosen_root named ≡ Some (record { address = root.address; width = root.width })
  pub valid : IsValidRootTable m root.address root.width root.bytes

-- the address of a root table, and the width of its slots
abbrev pub place_value : RootPlace → roots.Root
place_value place = record { address = place.address; width = place.width }

-- this is the root table that the RSDP at p names, and it is complete and has its kind's signature
pub record IsCompleteRoot (m : Memory) (p : ℕ) (root : RootValue) : Type 0 where
  pub named : IsRoot m p root.address root.width
  pub table : IsRootTable m root.address root.width root.bytes
