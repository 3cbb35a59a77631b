-- A table that is read and written again has the same contents.
use Rattle.std.proofs.Common.{◌≡◌, ℕ, ◌+◌, ◌^◌, ◌<◌, ◌≤◌, List, length, Some, None, Option, sym, ap, ◌∙◌, subst, arith, length-drop}
use Rattle.acpi_base.specs.Header.{head_of}
use Rattle.acpi_base.specs.TableKinds.{signature_of}
use Rattle.acpi_base.specs.declared.table_kind.TableKind.{TableKind}
use Rattle.acpi_base.proofs.Tables.Kinds.{length-signature_of}
use Rattle.acpi_write.specs.Bodies.{value_in, IsFilledAs, IsReadableAs, body_with}
use Rattle.acpi_write.specs.Encoded.{encoded_bytes_with, encoded_length, table_bytes}
use Rattle.acpi_write.specs.Laws.{AreByteValues, KeepsContents, ContentsAreKept}
use Rattle.acpi_write.specs.SetValues.{table_value_as}
use Rattle.acpi_write.specs.Spells.{IsCompleteTable}
use Rattle.acpi_write.specs.Values.{kind_of}
use Rattle.acpi_write.proofs.Tables.Kinds.{facts}
use Rattle.acpi_write.proofs.TablesWritten.CompleteTables.{complete_table, length_of_parts, fits_head, widths_of, length-table_bytes}

-- the bytes of a complete table, whose Length has 32 bits
pub record IsCleanTable (whole : List ℕ) : Type 0 where
  pub table : IsCompleteTable whole
  pub bytes : AreByteValues whole
  pub small : length whole < 2 ^ 32

pub kept : (kind : TableKind) (facs : ℕ) (whole : List ℕ) → IsCleanTable whole → IsFilledAs kind whole
    → KeepsContents kind whole (encoded_bytes_with facs (table_value_as (Some kind) whole))
kept kind facs whole is filled =
    let body = body_with facs (value_in kind whole) in
    let new = table_bytes (signature_of kind) (head_of whole) body in
    let size = (facts kind).count facs whole is.table.least filled in
    let small = is.small in
    let fits = fits_head whole is.bytes is.table.least in
    let table = complete_table (signature_of kind) (head_of whole) body (length-signature_of kind) fits
    (omega (arith, size, small)) in
    let count = length_of_parts new body table.0.least table.1 ∙ size in
    let contents = (facts kind).kept facs whole new
    (record { low = is.bytes; filled = filled; head = table.0.head_is; count = count; body = table.1 }) in
    subst (λ (k : TableKind). KeepsContents kind whole (table_bytes (signature_of k) (head_of whole) body))
    (sym ((facts kind).kind_is whole).0) (record { table = table.0; contents = contents })

pub contents_are_kept : ContentsAreKept
contents_are_kept kind whole is low small filled =
    let plain = ap (table_bytes (signature_of (kind_of (value_in kind whole))) (head_of whole))
    ((facts kind).plain whole filled) in
    subst (KeepsContents kind whole) plain
    (kept kind 0 whole (record { table = is; bytes = low; small = small }) filled)

-- ---- lengths

pub said_length : (o : Option TableKind) (whole : List ℕ) → 36 ≤ length whole → IsReadableAs o whole
    → encoded_length (table_value_as o whole) ≡ length whole
said_length (Some kind) whole least readable =
    let filled = (facts kind).filled whole readable in
    ap (λ (body : List ℕ). 36 + length body) (sym ((facts kind).plain whole filled))
    ∙ (facts kind).count 0 whole least filled
said_length None whole least readable = omega (arith, least, length-drop 36 whole)

pub length-encoded_bytes_with : (facs : ℕ) (o : Option TableKind) (whole : List ℕ) → 36 ≤ length whole
    → IsReadableAs o whole
    → length (encoded_bytes_with facs (table_value_as o whole)) ≡ encoded_length (table_value_as o whole)
length-encoded_bytes_with facs (Some kind) whole least readable =
    let v = value_in kind whole in
    length-table_bytes (signature_of (kind_of v)) (head_of whole) (body_with facs v) (length-signature_of (kind_of v))
    (widths_of whole least)
    ∙ (facts kind).count facs whole least ((facts kind).filled whole readable)
    ∙ sym (said_length (Some kind) whole least readable)
length-encoded_bytes_with facs None whole least readable = omega (arith, least, length-drop 36 whole)

pub said_short : (v : _) (o : Option TableKind) (whole : List ℕ) → v ≡ table_value_as o whole
    → (36 ≤ length whole) × (length whole < 2 ^ 32) → IsReadableAs o whole → encoded_length v < 2 ^ 32
said_short v o whole is count readable =
    let same = ap encoded_length is ∙ said_length o whole count.0 readable in
    omega (arith, same, count.1)
