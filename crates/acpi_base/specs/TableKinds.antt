-- The kinds of tables whose contents are read (ACPI 6.5, 5.2.9, 5.2.12, 5.2.16, 5.2.17, 5.2.30).
use Rattle.std.specs.Prelude.{◌≡◌, ℕ, List, Option, Some, None, true, false}
use Rattle.acpi_base.specs.Listed.{fadt_signature, madt_signature, srat_signature, slit_signature, pptt_signature}
use Rattle.acpi_base.specs.Signature.{has_signature}
use Rattle.acpi_base.specs.declared.table_kind.TableKind.{TableKind}
use Rattle.acpi_base.specs.declared.table_kind.TableKind.TheVariants as kind

-- the signature that a kind's tables begin with
abbrev pub signature_of : TableKind → List ℕ
signature_of kind.Fadt = fadt_signature
signature_of kind.Madt = madt_signature
signature_of kind.Srat = srat_signature
signature_of kind.Slit = slit_signature
signature_of kind.Pptt = pptt_signature

-- the kind of a table with these bytes; none where they begin with no kind's signature
abbrev pub IsKindOf : List ℕ → Option TableKind → Type 0
IsKindOf bytes (Some kind) = has_signature bytes (signature_of kind) ≡ true
IsKindOf bytes None = (kind : TableKind) → has_signature bytes (signature_of kind) ≡ false
