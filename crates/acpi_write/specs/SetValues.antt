-- The contents of a clean set of tables, without the addresses of its parts.
use Rattle.std.specs.Prelude.{◌≡◌, ◌≢◌, ℕ, List, [], ◌∷◌, ◌++◌, take, drop, Option, Some, None, Bool, not, ◌&&◌}
use Rattle.std.specs.List.{AllZip, find, list_any}
use Rattle.acpi_base.specs.Memory.{Memory, bytes_at}
use Rattle.acpi_base.specs.Header.{head_of}
use Rattle.acpi_base.specs.Signature.{has_signature}
use Rattle.acpi_base.specs.Tables.{IsTable}
use Rattle.acpi_base.specs.TableKinds.{signature_of}
use Rattle.acpi_base.specs.declared.table_kind.TableKind.{TableKind}
use Rattle.acpi_base.specs.Root.{IsRoot, IsRootTable}
use Rattle.acpi_base.specs.Listed.{listed_addresses}
use Rattle.acpi_base.specs.Fadt.{IsFadt, facs_address}
use Rattle.acpi_base.specs.Facs.{IsFacs}
use Rattle.acpi_base.specs.Policy.{PolicyValue}
use Rattle.acpi_base.specs.Statements.{IsClean}
use Rattle.acpi_write.specs.Bodies.{kinds, value_in}
use Rattle.acpi_write.specs.Values.{TableValue, Known, Other, SetValue}

-- ---- the contents of the listed tables

-- the table has this signature, and none of those before it has
abbrev pub is_first : List (List ℕ) → List ℕ → List ℕ → Bool
is_first before whole signature = has_signature whole signature && not (list_any (λ t. has_signature t signature) before)

-- the contents of a table's bytes as those of the kind; if it is of no kind, all its bytes
abbrev pub table_value_as : Option TableKind → List ℕ → TableValue
table_value_as (Some kind) whole = Known (head_of whole) (value_in kind whole)
table_value_as None whole = Other whole

-- the contents of a table, if these are listed before it: the first FADT, MADT, SRAT and so on by its kind, any other
-- table by its bytes
unfoldable pub table_value_behind : List (List ℕ) → List ℕ → TableValue
table_value_behind before whole = table_value_as (find (λ kind. is_first before whole (signature_of kind)) kinds) whole

-- the contents of tables, in their order, if these are listed before them
unfoldable pub values_behind : List (List ℕ) → List (List ℕ) → List TableValue
values_behind before [] = []
values_behind before (whole ∷ rest) = table_value_behind before whole ∷ values_behind (before ++ whole ∷ []) rest

-- the contents of all listed tables, in the order of their slots
abbrev pub values_of : List (List ℕ) → List TableValue
values_of tables = values_behind [] tables

-- ---- the contents of a set

-- there is a table at a, and these are all its bytes
abbrev pub IsCompleteAt : Memory → ℕ → List ℕ → Type 0
IsCompleteAt m a whole = (header : List ℕ) × IsTable m a header whole

-- the FACS that a FADT names, or that it names none (5.2.10)
abbrev pub IsFacsOf : Memory → List ℕ → Option (List ℕ) → Type 0
IsFacsOf m fadt None = facs_address fadt ≡ 0
IsFacsOf m fadt (Some bytes) = (facs_address fadt ≢ 0) × IsFacs m (facs_address fadt) bytes

-- the set that the RSDP at p leads to has the value v: its RSDP's OEMID, its root table's header, the contents of the
-- listed tables in the order of their slots, and the bytes of its FACS
pub record IsSetValue (m : Memory) (p : ℕ) (v : SetValue) : Type 0 where
  pub head : List ℕ
  pub head_present : bytes_at m p 20 ≡ Some head
  pub oemid : v.oemid ≡ take 6 (drop 9 head)
  pub r : ℕ
  pub d : ℕ
  pub root_bytes : List ℕ
  pub root : IsRoot m p r d
  pub root_table : IsRootTable m r d root_bytes
  pub root_head : v.root ≡ head_of root_bytes
  pub tables : List (List ℕ)
  pub each : AllZip (IsCompleteAt m) (listed_addresses root_bytes d) tables
  pub values : v.tables ≡ values_of tables
  pub facs : (fadt : List ℕ) → IsFadt m p fadt → IsFacsOf m fadt v.facs

-- a clean set has one value
abbrev pub OneSetValue : Type 0
OneSetValue = (m : Memory) (q : PolicyValue) (v w : SetValue) → IsClean m q → IsSetValue m q.rsdp v → IsSetValue m q.rsdp w → v ≡ w
