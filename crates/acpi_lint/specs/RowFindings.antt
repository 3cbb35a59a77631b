-- What the rules that are rows find in a set.
use Rattle.std.specs.Prelude.{◌≡◌, ℕ, ◌≤◌, ◌⊎◌, List, [], length, Contains, Option, Some, None, IfSome, IsSome, MatchOption}
use Rattle.acpi_base.specs.declared.table_kind.TableKind.TheVariants as kind
use Rattle.acpi_rules.specs.Indexes.{IsIndexOf}
use Rattle.acpi_rules.specs.Places.{IsNotAfter}
use Rattle.acpi_rules.specs.Terms.{TwoTables}
use Rattle.acpi_rules.specs.declared.index.Index.{Index}
use Rattle.acpi_rules.specs.declared.place.Place.{Place}
use Rattle.acpi_lint.specs.CompleteTables.{row_table_of}
use Rattle.acpi_lint.specs.FurtherTables.{row_length}
use Rattle.acpi_lint.specs.RowGroups.{BreaksRow, OfAny, RowGroup}
use Rattle.acpi_lint.specs.declared.complete_tables.CompleteTables.{CompleteTables}
use Rattle.acpi_lint.specs.declared.further_table.FurtherTable.TheVariants as further
use Rattle.acpi_lint.specs.declared.further_table.RowTable.{RowTable}
use Rattle.acpi_lint.specs.declared.further_table.RowTable.TheVariants.{Further, Kind}
use Rattle.acpi_lint.specs.declared.row_findings.Found.{Found}
use Rattle.acpi_lint.specs.declared.row_findings.Indexes.{Indexes}

-- ---- the tables that were found

-- there is one
abbrev pub HasTable : CompleteTables → Type 0
HasTable tables = (table : RowTable) × IsSome (row_table_of tables table)

-- these are the bytes of a table, which has all its fields
abbrev pub IsLongTable : CompleteTables → RowTable → List ℕ → Type 0
IsLongTable tables table whole = (row_table_of tables table ≡ Some whole) × (row_length table ≤ length whole)

-- these are those of a group
abbrev pub AreTablesOf : CompleteTables → RowTable → Option RowTable → TwoTables → Type 0
AreTablesOf tables table None t = IsLongTable tables table t.table × (t.other ≡ [])
AreTablesOf tables table (Some other) t = IsLongTable tables table t.table × IsLongTable tables other t.other

-- they were found, or there are none
abbrev pub FindsTables : CompleteTables → RowTable → Option RowTable → Option TwoTables → Type 0
FindsTables tables table other found =
    MatchOption found ((t : TwoTables) → ¬ AreTablesOf tables table other t) (AreTablesOf tables table other)

-- they break a row of a group
abbrev pub AreBroken : CompleteTables → RowGroup → ℕ → ℕ → ℕ → ℕ → Type 0
AreBroken tables g number at other point =
    (t : TwoTables) × AreTablesOf tables g.table g.other t × OfAny (BreaksRow t) g.rows number at other point

-- ---- the index of a table, if it has one

abbrev pub index_of_table : Indexes → RowTable → Option Index
index_of_table i (Kind kind.Madt) = i.madt
index_of_table i (Kind kind.Srat) = i.srat
index_of_table i (Kind kind.Pptt) = i.pptt
index_of_table i (Further further.Hmat) = i.hmat
index_of_table i (Further further.Dmar) = i.dmar
index_of_table i (Further further.Ivrs) = i.ivrs
index_of_table i _ = None

abbrev pub FindsIndex : Option (List ℕ) → Option Index → Type 0
FindsIndex table index = (whole : List ℕ) → table ≡ Some whole → IfSome index (λ i. IsIndexOf i whole)

abbrev pub AreIndexes : CompleteTables → Indexes → Type 0
AreIndexes tables i = (table : RowTable) → FindsIndex (row_table_of tables table) (index_of_table i table)

-- ---- what is found

-- a finding is there with this number, and at no later place
abbrev pub HasFound : List Found → ℕ → ℕ → ℕ → ℕ → Type 0
HasFound found number at other point =
    (f : Found) × Contains found f × (f.number ≡ number) × IsNotAfter f.place at other point

-- each of these findings is one, and the first finding of each rule is among these
pub record AreFirsts (Is : ℕ → ℕ → ℕ → ℕ → Type 0) (found : List Found) : Type 0 where
  pub here : (f : Found) → Contains found f → Is f.number f.place.at f.place.other f.place.point
  pub first : (number at other point : ℕ) → Is number at other point → HasFound found number at other point

-- there is a place, and it is not after this one
abbrev pub IsUpTo : Option Place → Place → Type 0
IsUpTo found p = (r : Place) × (found ≡ Some r) × IsNotAfter r p.at p.other p.point

-- this is the lowest of a place and those of the findings with a number
pub record IsLowestOf (one : Option Place) (found : List Found) (number : ℕ) (lowest : Option Place) : Type 0 where
  pub is : (lowest ≡ one) ⊎ ((f : Found) × Contains found f × (f.number ≡ number) × (lowest ≡ Some f.place))
  pub first : (p : Place) → one ≡ Some p → IsUpTo lowest p
  pub all : (f : Found) → Contains found f → f.number ≡ number → IsUpTo lowest f.place
