-- The bytes that are written for a table, as a function of its contents.
use Rattle.std.specs.Prelude.{◌≡◌, ℕ, ◌+◌, ◌-◌, ◌%◌, ◌^◌, ◌<◌, List, ◌++◌, length, drop}
use Rattle.acpi_base.specs.Number.{byte_sum}
use Rattle.acpi_base.specs.Header.{HeadValue, header_with, header_bytes}
use Rattle.acpi_base.specs.TableKinds.{signature_of}
use Rattle.acpi_write.specs.Bodies.{body_bytes, body_with}
use Rattle.acpi_write.specs.Values.{TableValue, Known, Other, kind_of}

-- each field has its width
pub record FitsHead (head : HeadValue) : Type 0 where
  pub revision : head.revision < 256
  pub oemid : length head.oemid ≡ 6
  pub oem_table_id : length head.oem_table_id ≡ 8
  pub oem_revision : head.oem_revision < 2 ^ 32
  pub creator_id : head.creator_id < 2 ^ 32
  pub creator_revision : head.creator_revision < 2 ^ 32

-- the checksum of these bytes, which have 0 in its place: with it they sum to 0 modulo 256 (5.2.6)
unfoldable pub checksum_of : List ℕ → ℕ
checksum_of bytes = (256 - byte_sum bytes) % 256

-- a table's bytes: its header, with the checksum that makes the sum 0, and its body
unfoldable pub table_bytes : List ℕ → HeadValue → List ℕ → List ℕ
table_bytes signature head body =
    let size = 36 + length body in
    let open_bytes = header_bytes (header_with signature size 0 head) ++ body in
    header_bytes (header_with signature size (checksum_of open_bytes) head) ++ body

-- its bytes after the header
abbrev pub body_of : TableValue → List ℕ
body_of (Known _ v) = body_bytes v
body_of (Other bytes) = drop 36 bytes

-- how many bytes `encoded_bytes` gives for it, including the header's 36; for another table this holds if it has at
-- least 36
abbrev pub encoded_length : TableValue → ℕ
encoded_length v = 36 + length (body_of v)

-- the bytes that are written for a value; those of another table are unchanged
abbrev pub encoded_bytes : TableValue → List ℕ
encoded_bytes (Known head v) = table_bytes (signature_of (kind_of v)) head (body_bytes v)
encoded_bytes (Other bytes) = bytes

-- the same if the FACS is at this address, which is 0 for none
abbrev pub encoded_bytes_with : ℕ → TableValue → List ℕ
encoded_bytes_with facs (Known head v) = table_bytes (signature_of (kind_of v)) head (body_with facs v)
encoded_bytes_with facs (Other bytes) = bytes
