-- The contents of a set of tables, without the addresses of its parts.
use Rattle.std.specs.Prelude.{ℕ, List, Option}
use Rattle.acpi_base.specs.Header.{HeadValue}
use Rattle.acpi_base.specs.Madt.{MadtEntry}
use Rattle.acpi_base.specs.Srat.{SratEntry}
use Rattle.acpi_base.specs.Pptt.{PpttEntry}
use Rattle.acpi_base.specs.declared.table_kind.TableKind.{TableKind}
use Rattle.acpi_base.specs.declared.table_kind.TableKind.TheVariants as kind

-- the contents of a table of a kind after its header
pub data BodyValue : Type 0 where
  Madt : ℕ → ℕ → List MadtEntry → BodyValue  -- the local APICs' address, the flags, the entries (5.2.12)
  Srat : List SratEntry → BodyValue  -- the entries (5.2.16)
  Slit : ℕ → List ℕ → BodyValue  -- the number of localities, the cells row after row (5.2.17)
  Pptt : List PpttEntry → BodyValue  -- the entries (5.2.30)
  Fadt : List ℕ → BodyValue  -- the bytes from 36 on (5.2.9)

-- the kind whose tables have these contents
abbrev pub kind_of : BodyValue → TableKind
kind_of (Madt _ _ _) = kind.Madt
kind_of (Srat _) = kind.Srat
kind_of (Slit _ _) = kind.Slit
kind_of (Pptt _) = kind.Pptt
kind_of (Fadt _) = kind.Fadt

-- the contents of a table; if it is of a kind, those of its header except signature, length and checksum (5.2.6)
pub data TableValue : Type 0 where
  Known : HeadValue → BodyValue → TableValue  -- of the header, and of what comes after it
  Other : List ℕ → TableValue  -- all bytes of any other table, also of a later one with such a signature

-- the contents of a set: the RSDP's OEMID, the root table's header, the listed tables in the order of their slots,
-- and the FACS's bytes, if there is one
pub record SetValue : Type 0 where
  pub oemid : List ℕ
  pub root : HeadValue
  pub tables : List TableValue
  pub facs : Option (List ℕ)
