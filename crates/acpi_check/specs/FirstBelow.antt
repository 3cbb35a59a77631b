-- The first tables that the slots of a root table list, while the slots are scanned.
use Rattle.std.specs.Prelude.{◌≡◌, ◌<◌, ◌⊎◌, ℕ, List, Option, Some, None, Contains}
use Rattle.acpi_base.specs.Memory.{Memory}
use Rattle.acpi_base.specs.Root.{HasSlot}
use Rattle.acpi_base.specs.Tables.{IsSigned, IsValidTable, IsTable}
use Rattle.acpi_base.specs.Listed.{IsFirstListed}
use Rattle.acpi_base.specs.TableKinds.{signature_of}
use Rattle.acpi_base.specs.declared.table_kind.TableKind.{TableKind}
use Rattle.acpi_read.specs.FirstTables.{first_table}
use Rattle.acpi_read.specs.Roots.{RootValue}
use Rattle.acpi_read.specs.declared.first_tables.FirstTables.{FirstTables}
use Rattle.acpi_check.specs.declared.read_addresses.ReadAddresses.{ReadAddresses}

-- the first table with a signature that the slots below k, of d bytes each, of a root table's bytes list
abbrev pub IsFirstBelow : Memory → List ℕ → ℕ → ℕ → List ℕ → Option (List ℕ) → Type 0
IsFirstBelow m bytes d k signature None = (j a : ℕ) → j < k → HasSlot bytes d j a → ¬ IsSigned m a signature
IsFirstBelow m bytes d k signature (Some whole) = (a : ℕ) × (header : List ℕ) × IsFirstListed m bytes d signature a × IsTable m a header whole

-- the same for each kind; and the tables of these slots are valid
pub record AreFirstBelow (m : Memory) (root : RootValue) (k : ℕ) (firsts : FirstTables) : Type 0 where
  pub valid : (j a : ℕ) → j < k → HasSlot root.bytes root.width j a → IsValidTable m a
  pub first : (kind : TableKind) → IsFirstBelow m root.bytes root.width k (signature_of kind) (first_table firsts kind)

-- an address that one of the slots below k lists, or 0
abbrev pub IsReadBelow : RootValue → ℕ → ℕ → Type 0
IsReadBelow root k a = (a ≡ 0) ⊎ ((j : ℕ) × (j < k) × HasSlot root.bytes root.width j a)

-- one of the addresses that a scan keeps
abbrev pub IsKept : ReadAddresses → ℕ → Type 0
IsKept read a = (a ≡ read.last) ⊎ Contains read.of_remainders.items a
