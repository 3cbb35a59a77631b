-- The complete tables of a set.
use Rattle.std.specs.Prelude.{◌≡◌, ℕ, ◌<◌, ◌≤◌, List, length, Option, Some, None, MatchOption, option_map}
use Rattle.acpi_base.specs.Memory.{Memory}
use Rattle.acpi_base.specs.Listed.{IsListedTable}
use Rattle.acpi_base.specs.Root.{IsSlot}
use Rattle.acpi_base.specs.TableKinds.{signature_of}
use Rattle.acpi_base.specs.declared.table_kind.TableKind.{TableKind}
use Rattle.acpi_base.specs.declared.table_kind.TableKind.TheVariants as kind
use Rattle.acpi_read.specs.Roots.{RootValue, IsCompleteRoot}
use Rattle.acpi_lint.specs.FurtherTables.{further_signature}
use Rattle.acpi_lint.specs.Slots.{IsRootOf, AreSlots, AreFirstSlots}
use Rattle.acpi_lint.specs.declared.complete_tables.CompleteTables.{CompleteTables}
use Rattle.acpi_lint.specs.declared.further_table.FurtherTable.{FurtherTable}
use Rattle.acpi_lint.specs.declared.further_table.FurtherTable.TheVariants as further
use Rattle.acpi_lint.specs.declared.further_table.RowTable.{RowTable}
use Rattle.acpi_lint.specs.declared.further_table.RowTable.TheVariants.{Further, Kind}

-- these are the bytes of the set's first listed table with the signature, or it is missing or incomplete
abbrev pub IsFound : Memory → ℕ → List ℕ → Option (List ℕ) → Type 0
IsFound m p signature found =
    MatchOption found ((whole : List ℕ) → ¬ IsListedTable m p signature whole) (IsListedTable m p signature)

-- the table of a kind
abbrev pub table_of : CompleteTables → TableKind → Option (List ℕ)
table_of tables kind.Fadt = tables.fadt
table_of tables kind.Madt = tables.madt
table_of tables kind.Srat = tables.srat
table_of tables kind.Slit = tables.slit
table_of tables kind.Pptt = tables.pptt

-- a further table, and any that rows are about
abbrev pub further_of : CompleteTables → FurtherTable → Option (List ℕ)
further_of tables further.Mcfg = tables.mcfg
further_of tables further.Hpet = tables.hpet
further_of tables further.Hmat = tables.hmat
further_of tables further.Gtdt = tables.gtdt
further_of tables further.Dmar = tables.dmar
further_of tables further.Ivrs = tables.ivrs
further_of tables further.Spcr = tables.spcr

abbrev pub row_table_of : CompleteTables → RowTable → Option (List ℕ)
row_table_of tables (Kind kind) = table_of tables kind
row_table_of tables (Further table) = further_of tables table

-- there is a complete root table of the RSDP at p
abbrev pub HasRoot : Memory → ℕ → Type 0
HasRoot m p = (root : RootValue) × IsCompleteRoot m p root

-- these are the root table and the tables of the set that the RSDP at p leads to
pub record AreCompleteTables (m : Memory) (p : ℕ) (tables : CompleteTables) : Type 0 where
  pub root : IsRootOf m p tables.root
  pub slots : AreSlots m (IsSlot m p) tables.slots.items
  pub firsts : AreFirstSlots m p tables.firsts
  pub listed : (kind : TableKind) → IsFound m p (signature_of kind) (table_of tables kind)
  pub further : (table : FurtherTable) → IsFound m p (further_signature table) (further_of tables table)

-- this is the table that was found, of at least this many bytes; or none was found, or it is shorter
abbrev pub IsLong : ℕ → Option (List ℕ) → Option (List ℕ) → Type 0
IsLong least found None = (whole : List ℕ) → found ≡ Some whole → length whole < least
IsLong least found (Some whole) = (found ≡ Some whole) × (least ≤ length whole)

-- and these are its entries, as `read` gives them
abbrev pub AreEntries : {E : Type 0} → ℕ → (List ℕ → E) → Option (List ℕ) → Option E → Type 0
AreEntries least read found entries =
    (view : Option (List ℕ)) × IsLong least found view × (entries ≡ option_map read view)
