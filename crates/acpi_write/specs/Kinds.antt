-- Which tables are read by their contents as those of a kind, and what is required of them.
use Rattle.std.specs.Prelude.{◌≡◌, ℕ, ◌<◌, Bool, true, false, not, List, length, take, slice_index_or, Option, Some, None, is_none}
use Rattle.std.specs.List.{list_any}
use Rattle.acpi_base.specs.Number.{byte_sum}
use Rattle.acpi_base.specs.Signature.{has_signature}
use Rattle.acpi_base.specs.TableKinds.{signature_of}
use Rattle.acpi_base.specs.declared.table_kind.TableKind.{TableKind}
use Rattle.acpi_read.specs.FirstTables.{first_table}
use Rattle.acpi_read.specs.declared.first_tables.FirstTables.{FirstTables}
use Rattle.acpi_read.specs.declared.first_tables.Listed.{Listed}
use Rattle.acpi_write.specs.Bodies.{IsReadableAs}
use Rattle.acpi_write.specs.SetValues.{is_first}

-- the kind of which a table is the first, after those before it; none if it is the first of no kind
abbrev pub IsKindBehind : List (List ℕ) → List ℕ → Option TableKind → Type 0
IsKindBehind before whole (Some kind) = is_first before whole (signature_of kind) ≡ true
IsKindBehind before whole None = (kind : TableKind) → is_first before whole (signature_of kind) ≡ false

-- whether one of the tables has the signature
abbrev pub is_among : List (List ℕ) → List ℕ → Bool
is_among tables signature = list_any (λ t. has_signature t signature) tables

-- the first tables of the kinds among the tables are recorded
abbrev pub HasFirsts : List (List ℕ) → FirstTables → Type 0
HasFirsts tables firsts = (kind : TableKind) → is_none (first_table firsts kind) ≡ not (is_among tables (signature_of kind))

-- a table sums to 0 and can be read as one of its kind, after those before it
pub record IsReadableBehind (before : List (List ℕ)) (whole : List ℕ) : Type 0 where
  pub readable : (kind : Option TableKind) → IsKindBehind before whole kind → IsReadableAs kind whole
  pub zero_sum : byte_sum whole ≡ 0

-- each table can
abbrev pub AreReadable : List (List ℕ) → Type 0
AreReadable tables = (k : ℕ) (none : List ℕ) → k < length tables → IsReadableBehind (take k tables) (slice_index_or tables k none)

-- the bytes of a listed table
abbrev pub table_of : Listed → List ℕ
table_of listed = listed.table
