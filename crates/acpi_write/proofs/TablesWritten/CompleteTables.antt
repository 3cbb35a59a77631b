-- The bytes of a table with its header are all of a table's, sum to 0, and say what they were made from.
use Rattle.std.proofs.Common.{◌≡◌, ℕ, ◌+◌, ◌^◌, ◌<◌, ◌≤◌, List, ◌++◌, length, drop, sum, true, refl, sym, ap, ◌∙◌, arith, append_assoc, length-append, length-drop}
use Rattle.std.proofs.lemmas.Cmp.{nat_list_eq_equiv}
use Rattle.std.proofs.lemmas.List.{length-take-le, take_at}
use Rattle.acpi_base.specs.Number.{byte_sum, number_bytes}
use Rattle.acpi_base.specs.Header.{HeadValue, HeaderValue, header_of, head_of, header_with, header_bytes, FitsHeader}
use Rattle.acpi_base.specs.Signature.{has_signature}
use Rattle.acpi_base.proofs.Images.PresentBytes.{field_below}
use Rattle.acpi_base.proofs.Layouts.Headers.{header_of-header_bytes, head_of-header_bytes, drop-header_bytes, length-header_and_body}
use Rattle.acpi_base.proofs.Layouts.RoundTrip.{length-number_bytes}
use Rattle.acpi_write.specs.Encoded.{checksum_of, table_bytes, FitsHead}
use Rattle.acpi_write.specs.Laws.{AreByteValues}
use Rattle.acpi_write.specs.Spells.{IsTableOf}
use Rattle.acpi_write.proofs.TablesWritten.Sums.{sum-append, sum-cons, closes, closing_below}

-- what is written fits its fields
record FitsTable (signature : List ℕ) (head : HeadValue) (body : List ℕ) : Type 0 where
  name : length signature ≡ 4
  head_fits : FitsHead head
  size : 36 + length body < 2 ^ 32

fits_header : (signature : List ℕ) (head : HeadValue) (body : List ℕ) (checksum : ℕ) → checksum < 256
    → FitsTable signature head body
    → FitsHeader (header_with signature (36 + length body) checksum head)
fits_header signature head body checksum low fits = record {
  signature = fits.name;
  size = fits.size;
  revision = fits.head_fits.revision;
  checksum = low;
  oemid = fits.head_fits.oemid;
  oem_table_id = fits.head_fits.oem_table_id;
  oem_revision = fits.head_fits.oem_revision;
  creator_id = fits.head_fits.creator_id;
  creator_revision = fits.head_fits.creator_revision;
}

-- the sum of a header's bytes, by the checksum
header_sum : (signature : List ℕ) (head : HeadValue) (size checksum : ℕ) (body : List ℕ) → checksum < 256
    → sum (header_bytes (header_with signature size checksum head) ++ body) ≡ sum
    (header_bytes (header_with signature size 0 head) ++ body) + checksum
unfolding header_bytes number_bytes
header_sum signature head size checksum body low = simp (sum-append, sum-cons) (omega arith)

table_sum : (signature : List ℕ) (head : HeadValue) (body : List ℕ) → byte_sum (table_bytes signature head body) ≡ 0
unfolding table_bytes
table_sum signature head body =
    let opened = header_bytes (header_with signature (36 + length body) 0 head) ++ body in
    closes opened _ (header_sum signature head (36 + length body) (checksum_of opened) body (closing_below opened))

begins : (signature : List ℕ) (head : HeadValue) (body : List ℕ)
    → (rest : List ℕ) × (table_bytes signature head body ≡ signature ++ rest)
unfolding table_bytes header_bytes
begins signature head body = (_, append_assoc signature _ body)

own_signature : (signature rest : List ℕ) → has_signature (signature ++ rest) signature ≡ true
unfolding has_signature
own_signature signature rest = rw (take_at signature rest (length signature) refl) (nat_list_eq_equiv.refl signature)

-- the bytes are those of a complete table with this signature, and say the head and the body
pub complete_table : (signature : List ℕ) (head : HeadValue) (body : List ℕ) → length signature ≡ 4 → FitsHead head
    → 36 + length body < 2 ^ 32
    → IsTableOf signature head (table_bytes signature head body) × (drop 36 (table_bytes signature head body) ≡ body)
unfolding table_bytes header_of
complete_table signature head body four head_fits short =
    let fits : FitsTable signature head body = record { name = four; head_fits = head_fits; size = short } in
    let opened = header_bytes (header_with signature (36 + length body) 0 head) ++ body in
    let v = header_with signature (36 + length body) (checksum_of opened) head in
    let wide = fits_header signature head body (checksum_of opened) (closing_below opened) fits in
    let count = length-header_and_body v body wide in
    let front = begins signature head body in (
      record {
        least = omega (arith, count);
        signed = ap (λ (bs : List ℕ). has_signature bs signature) front.1 ∙ own_signature signature front.0;
        head_is = head_of-header_bytes signature (36 + length body) (checksum_of opened) head body wide;
        size = ap (λ (h : HeaderValue). h.length) (header_of-header_bytes v body wide) ∙ sym count;
        zero_sum = table_sum signature head body;
      },
      drop-header_bytes v body wide,
    )

pub length_of_parts : (new body : List ℕ) → 36 ≤ length new → drop 36 new ≡ body → length new ≡ 36 + length body
length_of_parts new body least is = omega (arith, least, ap length is, length-drop 36 new)

-- ---- heads

-- the names in a head have their widths
pub record HasWidths (head : HeadValue) : Type 0 where
  pub oemid : length head.oemid ≡ 6
  pub oem_table_id : length head.oem_table_id ≡ 8

pub widths_of : (whole : List ℕ) → 36 ≤ length whole → HasWidths (head_of whole)
unfolding header_of
widths_of whole long = record {
  oemid = length-take-le 6 (drop 10 whole) (omega (arith, long, length-drop 10 whole));
  oem_table_id = length-take-le 8 (drop 16 whole) (omega (arith, long, length-drop 16 whole));
}

pub length-table_bytes : (signature : List ℕ) (head : HeadValue) (body : List ℕ) → length signature ≡ 4
    → HasWidths head → length (table_bytes signature head body) ≡ 36 + length body
unfolding table_bytes header_bytes
length-table_bytes signature head body four widths =
    simp (length-append, length-number_bytes, four, widths.oemid, widths.oem_table_id) (omega arith)

pub fits_head : (whole : List ℕ) → AreByteValues whole → 36 ≤ length whole → FitsHead (head_of whole)
unfolding header_of
fits_head whole low long =
    let widths = widths_of whole long in
    record {
      revision = field_below whole low 8 1;
      oemid = widths.oemid;
      oem_table_id = widths.oem_table_id;
      oem_revision = field_below whole low 24 4;
      creator_id = field_below whole low 28 4;
      creator_revision = field_below whole low 32 4;
    }
