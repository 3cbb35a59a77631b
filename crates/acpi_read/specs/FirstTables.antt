-- The first table of each kind, among tables that are added one after another.
use Rattle.std.specs.Prelude.{◌≡◌, ℕ, List, Option, Some, None, is_none, ◌&&◌, if◌then◌else◌, true, false}
use Rattle.std.specs.Option.{option_map}
use Rattle.acpi_base.specs.Signature.{has_signature}
use Rattle.acpi_base.specs.TableKinds.{signature_of}
use Rattle.acpi_base.specs.declared.table_kind.TableKind.{TableKind}
use Rattle.acpi_base.specs.declared.table_kind.TableKind.TheVariants as kind
use Rattle.acpi_read.specs.declared.first_tables.FirstTables.{FirstTables}
use Rattle.acpi_read.specs.declared.first_tables.Listed.{Listed}

-- the first table of a kind with its address, if there is one
abbrev pub first_listed : FirstTables → TableKind → Option Listed
first_listed tables kind.Fadt = tables.fadt
first_listed tables kind.Madt = tables.madt
first_listed tables kind.Srat = tables.srat
first_listed tables kind.Slit = tables.slit
first_listed tables kind.Pptt = tables.pptt

-- its bytes
abbrev pub first_table : FirstTables → TableKind → Option (List ℕ)
first_table tables kind = option_map (λ first. first.table) (first_listed tables kind)

-- the first table with a signature, with its address, once one more table is added
abbrev pub first_signed : List ℕ → Option Listed → Listed → Option Listed
first_signed signature found next = if has_signature next.table signature && is_none found then Some next else found

-- the same for the bytes alone
abbrev pub first_signed_table : List ℕ → Option (List ℕ) → List ℕ → Option (List ℕ)
first_signed_table signature found whole = if has_signature whole signature && is_none found then Some whole else found

-- the kind of which a table is the first, if it is added next
abbrev pub IsFirstOf : FirstTables → List ℕ → Option TableKind → Type 0
IsFirstOf tables whole (Some kind) = (has_signature whole (signature_of kind) ≡ true) × (first_table tables kind ≡ None)
IsFirstOf tables whole None = (kind : TableKind) → (has_signature whole (signature_of kind) && is_none (first_table tables kind)) ≡ false
