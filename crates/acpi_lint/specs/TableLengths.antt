-- The lengths of tables that have all their fields (ACPI 6.5, 5.2.9, 5.2.12, 5.2.16, 5.2.17, 5.2.30).
use Rattle.std.specs.Prelude.{ℕ}
use Rattle.acpi_base.specs.declared.table_kind.TableKind.{TableKind}
use Rattle.acpi_base.specs.declared.table_kind.TableKind.TheVariants as kind

-- how many bytes a table of a kind has at least that has all its fields
abbrev pub least_length : TableKind → ℕ
least_length kind.Fadt = 116
least_length kind.Madt = 44
least_length kind.Srat = 48
least_length kind.Slit = 44
least_length kind.Pptt = 36
