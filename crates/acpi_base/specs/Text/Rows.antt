-- Rows of 16 bytes: pairs of hex digits with one blank between them, and an LF.
use Rattle.std.specs.Prelude.{◌≡◌, ℕ, zero, suc, ◌+◌, ◌*◌, ◌≤◌, ◌<◌, List, [], ◌++◌, length, take, slice_index, Some, None, Result}
use Rattle.std.specs.Simd.Lanes.{chunk}
use Rattle.acpi_base.specs.Text.ImageText.{Reading, Data, digit_of, data_from, on_ok, read_line}
use Rattle.acpi_base.specs.Text.TextMemory.{IsPlacedData}
use Rattle.acpi_base.specs.declared.text.TextFault.{TextFault}

-- a row with these bytes is at this index of the text
pub record IsRowAt (text : List ℕ) (at : ℕ) (bytes : List ℕ) : Type 0 where
  pub within : at + 48 ≤ length text
  pub sixteen : length bytes ≡ 16
  pub spells : data_from [] None (chunk at 47 text) ≡ Data bytes
  pub ended : slice_index text (at + 47) ≡ 10

-- the text begins with so many rows, and these are their bytes
abbrev pub AreRows : List ℕ → ℕ → List ℕ → Type 0
AreRows text zero bytes = bytes ≡ []
AreRows text (suc n) bytes =
    (before last : List ℕ) × AreRows text n before × (bytes ≡ before ++ last) × IsRowAt text (48 * n) last

-- what comes of reading so many rows, if what was read before came to this
abbrev pub rows_read : Result Reading TextFault → List ℕ → ℕ → Result Reading TextFault
rows_read x text zero = x
rows_read x text (suc n) = on_ok (rows_read x text n) (λ r. read_line r (chunk (48 * n) 47 text) 1)

-- there are 16 values, and each that is below 16 is that of the digit at the same index
pub record AreDigitValues (bytes values : List ℕ) : Type 0 where
  pub long : length values ≡ 16
  pub each : (p : ℕ) → p < 16 → slice_index values p < 16 → digit_of (slice_index bytes p) ≡ Some (slice_index values p)

-- so many bytes from the start of the text are rows, and reading them came from x to y
pub record HasReadRows (x y : Result Reading TextFault) (text : List ℕ) (taken : ℕ) : Type 0 where
  pub count : ℕ
  pub bytes : List ℕ
  pub rows : AreRows text count bytes
  pub whole : taken ≡ 48 * count
  pub read : rows_read x text count ≡ y

-- the text begins with a row for which there are addresses
pub record IsPlacedRow (x : Result Reading TextFault) (text : List ℕ) : Type 0 where
  pub bytes : List ℕ
  pub row : IsRowAt text 0 bytes
  pub placed : IsPlacedData x (take 47 text) 1
