-- The laws about values.
use Rattle.std.specs.Prelude.{◌≡◌, ℕ, ◌^◌, ◌<◌, List, length, drop, Some, true}
use Rattle.acpi_base.specs.Signature.{has_signature}
use Rattle.acpi_base.specs.Entries.{IsEntry}
use Rattle.acpi_base.specs.Fadt.{IsValidFadtTable, facs_address, is_reduced}
use Rattle.acpi_base.specs.Header.{head_of}
use Rattle.acpi_base.specs.Listed.{fadt_signature}
use Rattle.acpi_base.specs.Madt.{madt_entry}
use Rattle.acpi_base.specs.Srat.{srat_entry}
use Rattle.acpi_base.specs.Pptt.{pptt_entry}
use Rattle.acpi_base.specs.TableKinds.{signature_of}
use Rattle.acpi_base.specs.declared.table_kind.TableKind.{TableKind}
pub use Rattle.acpi_base.specs.KindLayouts.{AreByteValues}
use Rattle.acpi_read.specs.Madts.{madt_bytes}
use Rattle.acpi_read.specs.Srats.{srat_bytes}
use Rattle.acpi_read.specs.Pptts.{pptt_bytes}
use Rattle.acpi_write.specs.Bodies.{contents_of, whole_value_in, IsFilledAs, IsReadableAs}
use Rattle.acpi_write.specs.Encoded.{encoded_bytes, table_bytes}
use Rattle.acpi_write.specs.FadtBody.{with_facs}
use Rattle.acpi_write.specs.SetValues.{table_value_as}
use Rattle.acpi_write.specs.Spells.{Spells, SaysEntry, IsTableOf, IsCompleteTable}
use Rattle.acpi_write.specs.Values.{Known, Other}

-- a table's bytes encode the value that is read from them, if they can be read as those of its kind; those of a FADT
-- encode everything after its header, including the FACS addresses
pub record IsSpelled (whole : List ℕ) : Type 0 where
  pub known : (kind : TableKind) → has_signature whole (signature_of kind) ≡ true → IsReadableAs (Some kind) whole
      → Spells (Known (head_of whole) (whole_value_in kind whole)) whole
  pub other : Spells (Other whole) whole

-- for complete tables
abbrev pub WhatIsReadIsSpelled : Type 0
WhatIsReadIsSpelled = (whole : List ℕ) → IsCompleteTable whole → IsSpelled whole

-- the bytes that are written for an entry have the same contents and length
pub record WrittenAgain {E : Type 0} (read : List ℕ → E) (bytes_of : E → List ℕ) (e : List ℕ) : Type 0 where
  pub says : SaysEntry read (bytes_of (read e)) (read e)
  pub count : length (bytes_of (read e)) ≡ length e

-- for an entry of each of the three tables
pub record IsKept (e : List ℕ) : Type 0 where
  pub madt : WrittenAgain madt_entry madt_bytes e
  pub srat : WrittenAgain srat_entry srat_bytes e
  pub pptt : WrittenAgain pptt_entry pptt_bytes e

-- for all entries
abbrev pub EntriesAreKept : Type 0
EntriesAreKept = (e : List ℕ) → AreByteValues e → IsEntry e → IsKept e

-- the new bytes are those of a table of the kind with the same head and contents
pub record KeepsContents (kind : TableKind) (whole new : List ℕ) : Type 0 where
  pub table : IsTableOf (signature_of kind) (head_of whole) new
  pub contents : contents_of kind new ≡ contents_of kind whole

-- the same holds for the bytes that are written for the contents of a complete table as one of the kind, if it is
-- long enough and entries fill it if the kind has entries
abbrev pub ContentsAreKept : Type 0
ContentsAreKept =
    (kind : TableKind) (whole : List ℕ) → IsCompleteTable whole → AreByteValues whole → length whole < 2 ^ 32
    → IsFilledAs kind whole
    → KeepsContents kind whole (encoded_bytes (table_value_as (Some kind) whole))

-- The FADT with another FACS address, in X_FIRMWARE_CTRL, at 132, if it has at least 140 bytes, otherwise in
-- FIRMWARE_CTRL, at 36 (5.2.9): it has the same header, is valid, its FACS address is this one, and its hardware is
-- reduced if it was before.
pub record NamesFacs (whole : List ℕ) (facs : ℕ) : Type 0 where
  pub table : IsTableOf fadt_signature (head_of whole) (table_bytes fadt_signature (head_of whole) (with_facs (drop 36 whole) facs))
  pub valid : IsValidFadtTable (table_bytes fadt_signature (head_of whole) (with_facs (drop 36 whole) facs))
  pub named : facs_address (table_bytes fadt_signature (head_of whole) (with_facs (drop 36 whole) facs)) ≡ facs
  pub reduced : is_reduced (table_bytes fadt_signature (head_of whole) (with_facs (drop 36 whole) facs)) ≡ is_reduced whole

-- for valid FADTs, and for addresses that fit into their field: below 2^64, and below 2^32 for 4 bytes, at 36
abbrev pub FadtsNameFacs : Type 0
FadtsNameFacs =
    (whole : List ℕ) (facs : ℕ) → IsCompleteTable whole → AreByteValues whole → length whole < 2 ^ 32 → IsValidFadtTable whole → facs < 2 ^ 64
    → (length whole < 140 → facs < 2 ^ 32)
    → NamesFacs whole facs
