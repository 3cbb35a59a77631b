-- The header that every system description table begins with (ACPI 6.5, 5.2.6): its fields and its 36
-- bytes. Offsets are from the table's start.
use Rattle.std.specs.Prelude.{◌≡◌, ℕ, ◌^◌, ◌<◌, List, [], ◌∷◌, length, take, drop}
use Rattle.acpi_base.specs.Number.{field}
use Rattle.acpi_base.specs.Layouts.{Part, NumberOf, BytesOf, PartValue, Number, Bytes, layout_bytes}

-- what a header says
pub record HeaderValue : Type 0 where
  pub signature : List ℕ
  pub length : ℕ
  pub revision : ℕ
  pub checksum : ℕ
  pub oemid : List ℕ
  pub oem_table_id : List ℕ
  pub oem_revision : ℕ
  pub creator_id : ℕ
  pub creator_revision : ℕ

-- what the header that a table's bytes begin with says
unfoldable pub header_of : List ℕ → HeaderValue
header_of bytes =
    record {
      signature = take 4 bytes;
      length = field bytes 4 4;
      revision = field bytes 8 1;
      checksum = field bytes 9 1;
      oemid = take 6 (drop 10 bytes);
      oem_table_id = take 8 (drop 16 bytes);
      oem_revision = field bytes 24 4;
      creator_id = field bytes 28 4;
      creator_revision = field bytes 32 4;
    }

-- its parts in order
abbrev pub header_parts : List Part
header_parts =
    BytesOf 4 ∷  -- signature
    NumberOf 4 ∷  -- length
    NumberOf 1 ∷  -- revision
    NumberOf 1 ∷  -- checksum
    BytesOf 6 ∷  -- oemid
    BytesOf 8 ∷  -- oem_table_id
    NumberOf 4 ∷  -- oem_revision
    NumberOf 4 ∷  -- creator_id
    NumberOf 4 ∷  -- creator_revision
    []

-- their values
abbrev pub header_values : HeaderValue → List PartValue
header_values v =
    Bytes v.signature ∷ Number v.length ∷ Number v.revision ∷ Number v.checksum ∷ Bytes v.oemid ∷ Bytes v.oem_table_id
    ∷ Number v.oem_revision
    ∷ Number v.creator_id
    ∷ Number v.creator_revision
    ∷ []

-- the bytes of a header that says v: its fields, one after another
unfoldable pub header_bytes : HeaderValue → List ℕ
header_bytes v = layout_bytes header_parts (header_values v)

-- each field has its width
pub record FitsHeader (v : HeaderValue) : Type 0 where
  pub signature : length v.signature ≡ 4
  pub size : v.length < 2 ^ 32
  pub revision : v.revision < 256
  pub checksum : v.checksum < 256
  pub oemid : length v.oemid ≡ 6
  pub oem_table_id : length v.oem_table_id ≡ 8
  pub oem_revision : v.oem_revision < 2 ^ 32
  pub creator_id : v.creator_id < 2 ^ 32
  pub creator_revision : v.creator_revision < 2 ^ 32

-- what a header says besides its signature, length and checksum
pub record HeadValue : Type 0 where
  pub revision : ℕ
  pub oemid : List ℕ
  pub oem_table_id : List ℕ
  pub oem_revision : ℕ
  pub creator_id : ℕ
  pub creator_revision : ℕ

-- that of a table's bytes
abbrev pub head_of : List ℕ → HeadValue
head_of bytes =
    let v = header_of bytes in
    record {
      revision = v.revision;
      oemid = v.oemid;
      oem_table_id = v.oem_table_id;
      oem_revision = v.oem_revision;
      creator_id = v.creator_id;
      creator_revision = v.creator_revision;
    }

-- a complete header
abbrev pub header_with : List ℕ → ℕ → ℕ → HeadValue → HeaderValue
header_with signature size checksum head =
    record {
      signature = signature;
      length = size;
      revision = head.revision;
      checksum = checksum;
      oemid = head.oemid;
      oem_table_id = head.oem_table_id;
      oem_revision = head.oem_revision;
      creator_id = head.creator_id;
      creator_revision = head.creator_revision;
    }
