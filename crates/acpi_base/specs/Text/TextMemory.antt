-- When memory may run out for a text.
use Rattle.std.specs.Prelude.{◌≡◌, ◌≤◌, ◌⊎◌, ℕ, ◌+◌, ◌^◌, List, [], ◌∷◌, ◌++◌, length, Option, Some, Result, Ok, false}
use Rattle.acpi_base.specs.Text.ImageText.{Reading, Data, line_of, is_too_long, on_ok, read_lines, read_text, start}
use Rattle.acpi_base.specs.Text.TextMeaning.{text_lines}
use Rattle.acpi_base.specs.declared.text.TextFault.{TextFault}

-- there are addresses below 2^64 for so many bytes
pub record HasRoom (next : Option ℕ) (count : ℕ) : Type 0 where
  pub address : ℕ
  pub placed : next ≡ Some address
  pub fits : address + count ≤ 2 ^ 64

-- A line is data for which there are addresses. `lines_before` is the result of reading the lines before it: none has a fault.
-- Neither this line nor the text through its end is too long. `ending` is 1 if an LF ends it, and 0 if the text does.
pub record IsPlacedData (lines_before : Result Reading TextFault) (line : List ℕ) (ending : ℕ) : Type 0 where
  pub r : Reading
  pub bytes : List ℕ
  pub faultless : lines_before ≡ Ok r
  pub short : is_too_long (length line) (r.through + length line + ending) ≡ false
  pub spells : line_of line ≡ Data bytes
  pub room : HasRoom r.next (length bytes)

-- a line of the text is such data, if reading the lines before the text came to this; none but the last line is without an LF
pub record HasPlacedData (lines_before : Result Reading TextFault) (text : List ℕ) : Type 0 where
  pub before : List (List ℕ)
  pub line : List ℕ
  pub after : List (List ℕ)
  pub ending : ℕ
  pub lines : text_lines text ≡ before ++ line ∷ after
  pub last : ending ≡ 0 → after ≡ []
  pub placed : IsPlacedData (on_ok lines_before (λ r. read_lines r before)) line ending

-- Memory may run out for a text only at a line of data for which there are addresses, if no line before it has a fault, or at
-- the end of a text without a fault, when the image is laid out.
abbrev pub MayRunOut : List ℕ → Type 0
MayRunOut text = HasPlacedData (Ok start) text ⊎ ((r : Reading) × (read_text text ≡ Ok r))
