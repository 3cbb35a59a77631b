-- What a good image text means, without reading it line by line: its lines, the address of each byte of its data, and the
-- image that they make.
use Rattle.std.specs.Prelude.{◌≡◌, ◌↔◌, ℕ, ◌+◌, ◌^◌, ◌<◌, ◌≤◌, List, [], ◌∷◌, ◌++◌, length, map, Some}
use Rattle.std.specs.List.{All, Contains, flat_map, join_with_byte, slice_get}
use Rattle.acpi_base.specs.Memory.{Memory, byte_of}
use Rattle.acpi_base.specs.Text.ImageText.{Line, Blank, Address, Data, Bad, line_of, ended_lines, last_line, max_text, max_line}

-- the lines of a text: those that an LF ends, and what comes after the last LF
abbrev pub text_lines : List ℕ → List (List ℕ)
text_lines bytes = ended_lines bytes ++ last_line bytes ∷ []

-- These are the lines of a text: joined by LFs they make the text, and none of them has an LF. There is
-- always one, which may be empty. `acpi_base::laws::lines_mean` relates this to `text_lines`.
pub record AreLines (bytes : List ℕ) (lines : List (List ℕ)) : Type 0 where
  pub some : 0 < length lines
  pub joined : join_with_byte 10 lines ≡ bytes
  pub whole : All (λ line. ¬ Contains line 10) lines

-- what the lines say
abbrev pub parsed_lines : List ℕ → List Line
parsed_lines bytes = map line_of (text_lines bytes)

-- the bytes of a data line; another line has none
abbrev pub data_of : Line → List ℕ
data_of Blank = []
data_of (Address address) = []
data_of (Data bytes) = bytes
data_of Bad = []

-- the bytes of all data lines, one after another
abbrev pub all_data : List Line → List ℕ
all_data lines = flat_map data_of lines

-- Byte n of all the data is at address a. A line gives an address, and directly after it comes a block of lines of which
-- none gives an address: the data of the block begins at that address, and byte n of all the data is byte k of the block's.
pub record IsDataByteAt (lines : List Line) (n a : ℕ) : Type 0 where
  pub before : List Line
  pub address : ℕ
  pub block : List Line
  pub after : List Line
  pub k : ℕ
  pub split : lines ≡ before ++ Address address ∷ (block ++ after)
  pub no_other : (other : ℕ) → ¬ Contains block (Address other)
  pub within : k < length (all_data block)
  pub byte : n ≡ length (all_data before) + k
  pub place : a ≡ address + k

-- The text and each of its lines are short enough, and no line is bad. Each byte of the data has an address below 2^64, and
-- no two have the same one. The image has these bytes there, and no others.
pub record IsGoodText (bytes : List ℕ) (m : Memory) : Type 0 where
  pub text_fits : length bytes ≤ max_text
  pub lines_fit : All (λ line. length line ≤ max_line) (text_lines bytes)
  pub none_bad : ¬ Contains (parsed_lines bytes) Bad
  pub stands : (n : ℕ) → n < length (all_data (parsed_lines bytes)) → (a : ℕ) × IsDataByteAt (parsed_lines bytes) n a
  pub below : (n a : ℕ) → IsDataByteAt (parsed_lines bytes) n a → a < 2 ^ 64
  pub once : (n k a : ℕ) → IsDataByteAt (parsed_lines bytes) n a → IsDataByteAt (parsed_lines bytes) k a → n ≡ k
  pub image : (a b : ℕ) → (byte_of m a ≡ Some b) ↔ ((n : ℕ) × IsDataByteAt (parsed_lines bytes) n a × (slice_get (all_data (parsed_lines bytes)) n ≡ Some b))
