-- The tables of a root table's slots that `show --anyway` shows line by line (ACPI 6.5, 5.2.6 to 5.2.8): of each kind the first,
-- by its header alone, if it is complete.
use Rattle.std.specs.Prelude.{◌≡◌, ℕ, List, Option, Some, None}
use Rattle.acpi_base.specs.Listed.{IsFirstListed}
use Rattle.acpi_base.specs.Memory.{Memory}
use Rattle.acpi_base.specs.TableKinds.{signature_of}
use Rattle.acpi_base.specs.Tables.{IsTable}
use Rattle.acpi_base.specs.declared.table_kind.TableKind.{TableKind}
use Rattle.acpi_read.specs.FirstTables.{first_listed}
use Rattle.acpi_read.specs.Roots.{RootValue}
use Rattle.acpi_read.specs.declared.first_tables.FirstTables.{FirstTables}
use Rattle.acpi_read.specs.declared.first_tables.Listed.{Listed}

-- this table is at a, whatever its bytes sum to; or none is complete there: a byte of its header or of its Length bytes is not
-- present, or its Length is below 36
abbrev pub IsCompleteAt : Memory → ℕ → Option Listed → Type 0
IsCompleteAt m a None = (header whole : List ℕ) → ¬ IsTable m a header whole
IsCompleteAt m a (Some listed) = (listed.address ≡ a) × ((header : List ℕ) × IsTable m a header listed.table)

-- This table is listed in the first slot at whose address a header with the signature is present. None if no slot lists such
-- a header, or if the table in that slot is not complete, even if one in a later slot is.
abbrev pub IsFirstComplete : Memory → RootValue → List ℕ → Option Listed → Type 0
IsFirstComplete m root signature None =
    (a : ℕ) → IsFirstListed m root.bytes root.width signature a → IsCompleteAt m a None
IsFirstComplete m root signature (Some listed) =
    IsFirstListed m root.bytes root.width signature listed.address × IsCompleteAt m listed.address (Some listed)

-- these are the tables of each kind
pub record AreFirstComplete (m : Memory) (root : RootValue) (tables : FirstTables) : Type 0 where
  pub each : (kind : TableKind) → IsFirstComplete m root (signature_of kind) (first_listed tables kind)
