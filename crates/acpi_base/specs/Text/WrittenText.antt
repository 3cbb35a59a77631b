-- The written form of an image: for each run of present addresses, in rising order, `@` and its first address, and then its
-- bytes, 16 a line. Digits are in lower case, addresses have no leading zeros, and each line ends with LF.
use Rattle.std.specs.Prelude.{◌≡◌, ℕ, zero, suc, ◌+◌, ◌/◌, ◌%◌, ◌<◌, ◌≤◌, List, [], ◌∷◌, ◌++◌, length, take, drop, Some, None, IsSome, false}
use Rattle.std.specs.List.{flat_map}
use Rattle.std.specs.FinMap.{empty}
use Rattle.std.specs.Fmt.{digits, digit_glyph}
use Rattle.acpi_base.specs.Text.ImageText.{max_text, IsText}
use Rattle.acpi_base.specs.Memory.{Memory, byte_of, bytes_at, with_bytes}
use Rattle.acpi_base.specs.Image.Runs.{Run, end_of, IsComplete}

-- ---- the runs of an image

-- runs in rising order, from an address on, with at least one address between two
abbrev pub AreSortedRuns : ℕ → List Run → Type 0
AreSortedRuns from [] = Unit {0}
AreSortedRuns from (r ∷ rs) = (from ≤ r.base) × IsComplete r × AreSortedRuns (end_of r + 1) rs

-- an image with the bytes of the runs put in
unfoldable pub with_runs : Memory → List Run → Memory
with_runs m [] = m
with_runs m (r ∷ rs) = with_runs (with_bytes m r.base r.bytes) rs

-- an image has nothing from an address on
abbrev pub IsEmptyFrom : Memory → ℕ → Type 0
IsEmptyFrom m from = (x : ℕ) → from ≤ x → byte_of m x ≡ None

-- the lowest address of an image, of those from an address on
pub record IsFirstFrom (m : Memory) (from first : ℕ) : Type 0 where
  pub from_there : from ≤ first
  pub none_before : (x : ℕ) → from ≤ x → x < first → byte_of m x ≡ None
  pub present : IsSome (byte_of m first)

-- these bytes are the first of an image from an address on, up to the next address that is not present
pub record IsNextRun (m : Memory) (from base : ℕ) (bytes : List ℕ) : Type 0 where
  pub first : IsFirstFrom m from base
  pub present : bytes_at m base (length bytes) ≡ Some bytes
  pub none_behind : byte_of m (base + length bytes) ≡ None

-- ---- their text

-- a byte as two hex digits
abbrev pub pair : ℕ → List ℕ
pair b = digit_glyph false (b / 16) ∷ digit_glyph false (b % 16) ∷ []

-- bytes as pairs, each with a blank before it
unfoldable pub spaced_pairs : List ℕ → List ℕ
spaced_pairs [] = []
spaced_pairs (b ∷ rest) = 32 ∷ (pair b ++ spaced_pairs rest)

-- bytes as pairs with one blank between them
unfoldable pub row : List ℕ → List ℕ
row [] = []
row (b ∷ rest) = pair b ++ spaced_pairs rest

-- n lines of 16 bytes each; the last has those that remain
unfoldable pub rows : ℕ → List ℕ → List (List ℕ)
rows zero bytes = []
rows (suc n) bytes = row (take 16 bytes) ∷ rows n (drop 16 bytes)

-- as many lines as the bytes need
abbrev pub row_count : List ℕ → ℕ
row_count bytes = (length bytes + 15) / 16

-- an address's line
abbrev pub address_line : ℕ → List ℕ
address_line base = 64 ∷ digits 16 false base

-- a run's lines
abbrev pub run_lines : Run → List (List ℕ)
run_lines r = address_line r.base ∷ rows (row_count r.bytes) r.bytes

-- a line with its LF
abbrev pub line_with_lf : List ℕ → List ℕ
line_with_lf line = line ++ 10 ∷ []

-- the text of lines
abbrev pub text_of : List (List ℕ) → List ℕ
text_of lines = flat_map line_with_lf lines

-- the text of runs
unfoldable pub runs_text : List Run → List ℕ
runs_text rs = text_of (flat_map run_lines rs)

-- the text is the written form of the image
pub record IsWritten (text : List ℕ) (m : Memory) : Type 0 where
  pub runs : List Run
  pub rising : AreSortedRuns 0 runs
  pub image : with_runs empty runs ≡ m
  pub is : text ≡ runs_text runs

-- ---- its laws

-- the written form of an image is read as the image, unless it is too long for a text
abbrev pub WrittenIsText : Type 0
WrittenIsText = (text : List ℕ) (m : Memory) → IsWritten text m → length text ≤ max_text → IsText text m

-- an image has one written form
abbrev pub OneWritten : Type 0
OneWritten = (m : Memory) (text other : List ℕ) → IsWritten text m → IsWritten other m → text ≡ other
