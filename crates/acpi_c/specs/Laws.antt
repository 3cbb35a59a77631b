-- The laws of pieces and of texts: which image pieces give, why they are refused, and that one image has one verdict.
use Rattle.std.specs.Prelude.{◌≡◌, ◌↔◌, ◌⊎◌, ℕ, ◌+◌, ◌^◌, ◌<◌, ◌≤◌, ◌++◌, List, [], ◌∷◌, length, slice_get, Some, Ok, Err}
use Rattle.std.specs.FinMap.{empty}
use Rattle.acpi_base.specs.Memory.{Memory, byte_of}
use Rattle.acpi_base.specs.Text.ImageText.{IsText}
use Rattle.acpi_base.specs.declared.verdict.Verdict.{Verdict}
use Rattle.acpi_c.specs.Pieces.{with_pieces}
use Rattle.acpi_c.specs.Results.{Judges}
use Rattle.acpi_c.specs.Sources.{pieces_source, text_source}
use Rattle.acpi_c.specs.declared.pieces.Piece.{Piece}
use Rattle.acpi_c.specs.declared.refusal.Refusal.TheVariants.{PiecePastEnd, PiecesOverlap}
use Rattle.acpi_c.specs.declared.settings.Inputs.{Inputs}
use Rattle.acpi_c.specs.declared.settings.Settings.{Settings}

-- the piece has the byte b at the address a
pub record HasByte (p : Piece) (a b : ℕ) : Type 0 where
  pub offset : ℕ
  pub place : a ≡ p.address + offset
  pub byte : slice_get p.bytes.now offset ≡ Some b

-- one of the pieces has it
abbrev pub HaveByte : List Piece → ℕ → ℕ → Type 0
HaveByte [] a b = ⊥
HaveByte (p ∷ rest) a b = HasByte p a b ⊎ HaveByte rest a b

-- the image that pieces give has their bytes at their addresses, and no others
abbrev pub PiecesMean : Type 0
PiecesMean =
    (pieces : List Piece) (m : Memory) → with_pieces 0 empty pieces ≡ Ok m → (a b : ℕ) → (byte_of m a ≡ Some b) ↔ HaveByte pieces a b

-- the pieces before the one at this index give an image
pub record StandsBehind (pieces : List Piece) (index : ℕ) (p : Piece) (earlier : List Piece) : Type 0 where
  pub later : List Piece
  pub all : pieces ≡ earlier ++ (p ∷ later)
  pub count : length earlier ≡ index
  pub image : Memory
  pub made : with_pieces 0 empty earlier ≡ Ok image

-- the piece at this index passes the address 2^64 - 1, and those before it give an image
pub record IsPastEnd (pieces : List Piece) (index : ℕ) : Type 0 where
  pub piece : Piece
  pub earlier : List Piece
  pub behind : StandsBehind pieces index piece earlier
  pub past : 2 ^ 64 < piece.address + length piece.bytes.now

-- Those before the piece at this index give an image, which has a byte at an address of the piece; and the piece has
-- no lower such address.
pub record IsOverlap (pieces : List Piece) (index address : ℕ) : Type 0 where
  pub piece : Piece
  pub earlier : List Piece
  pub behind : StandsBehind pieces index piece earlier
  pub fits : piece.address + length piece.bytes.now ≤ 2 ^ 64
  pub own : (b : ℕ) × HasByte piece address b
  pub taken : (b : ℕ) × HaveByte earlier address b
  pub least : (a b c : ℕ) → HasByte piece a b → HaveByte earlier a c → address ≤ a

-- which pieces are refused because they pass the last address
abbrev pub PastEndMeans : Type 0
PastEndMeans = (pieces : List Piece) (index : ℕ) → (with_pieces 0 empty pieces ≡ Err (PiecePastEnd index)) ↔ IsPastEnd pieces index

-- which pieces are refused because they overlap
abbrev pub OverlapMeans : Type 0
OverlapMeans =
    (pieces : List Piece) (index address : ℕ) → (with_pieces 0 empty pieces ≡ Err (PiecesOverlap index address)) ↔ IsOverlap pieces index address

-- pieces with the same bytes give the same image, however they are split and in whatever order they come
abbrev pub OneImage : Type 0
OneImage =
    (pieces others : List Piece) (m n : Memory) → with_pieces 0 empty pieces ≡ Ok m → with_pieces 0 empty others ≡ Ok n
    → ((a b : ℕ) → HaveByte pieces a b ↔ HaveByte others a b) → m ≡ n

-- pieces and a text that give one image get the same verdict under the same settings
abbrev pub OneAnswer : Type 0
OneAnswer =
    (pieces : List Piece) (text : List ℕ) (m : Memory) (settings : Settings) (inputs : List Inputs) (v w : Verdict)
    → with_pieces 0 empty pieces ≡ Ok m → IsText text m
    → Judges (pieces_source pieces) settings inputs v → Judges (text_source text) settings inputs w → v ≡ w
