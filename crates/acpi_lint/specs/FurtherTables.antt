-- The tables that rules of advice read: those that `check` reads, and the MCFG (PCI Firmware Specification 3.3, 4.1.2), the HPET
-- (IA-PC HPET 1.0a, 3.2.4), the HMAT (ACPI 6.5, 5.2.28), the GTDT (ACPI 6.5, 5.2.25), the DMAR (Intel VT-d specification, 8.1),
-- the IVRS (AMD 48882, 5.2.1) and the SPCR (Microsoft's Serial Port Console Redirection Table 1.10).
use Rattle.std.specs.Prelude.{◌≡◌, ℕ, List, Option, Some, None, codes, true, false}
use Rattle.acpi_base.specs.Signature.{has_signature}
use Rattle.acpi_base.specs.TableKinds.{signature_of}
use Rattle.acpi_lint.specs.TableLengths.{least_length}
use Rattle.acpi_lint.specs.declared.further_table.FurtherTable.{FurtherTable}
use Rattle.acpi_lint.specs.declared.further_table.FurtherTable.TheVariants as further
use Rattle.acpi_lint.specs.declared.further_table.RowTable.{RowTable}
use Rattle.acpi_lint.specs.declared.further_table.RowTable.TheVariants.{Kind, Further}

abbrev pub further_signature : FurtherTable → List ℕ
further_signature further.Mcfg = codes "MCFG"
further_signature further.Hpet = codes "HPET"
further_signature further.Hmat = codes "HMAT"
further_signature further.Gtdt = codes "GTDT"
further_signature further.Dmar = codes "DMAR"
further_signature further.Ivrs = codes "IVRS"
further_signature further.Spcr = codes "SPCR"

-- the one with these bytes; none where they begin with no such signature
abbrev pub IsFurtherOf : List ℕ → Option FurtherTable → Type 0
IsFurtherOf bytes (Some table) = has_signature bytes (further_signature table) ≡ true
IsFurtherOf bytes None = (table : FurtherTable) → has_signature bytes (further_signature table) ≡ false

-- ---- any of them

abbrev pub row_signature : RowTable → List ℕ
row_signature (Kind kind) = signature_of kind
row_signature (Further table) = further_signature table

-- how many bytes it has at least, to be read
abbrev pub row_length : RowTable → ℕ
row_length (Kind kind) = least_length kind
row_length (Further table) = 36
