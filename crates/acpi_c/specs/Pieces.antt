-- The image that pieces give.
use Rattle.std.specs.Prelude.{◌≡◌, ℕ, suc, List, [], ◌∷◌, Option, Some, None, Result, Ok, Err}
use Rattle.std.specs.FinMap.{empty}
use Rattle.acpi_base.specs.Memory.{Memory, with_bytes}
use Rattle.acpi_base.specs.Image.Adding.{add_refusal}
use Rattle.acpi_base.specs.declared.image.ImageFault.{ImageFault}
use Rattle.acpi_base.specs.declared.image.ImageFault.TheVariants as image
use Rattle.acpi_c.specs.declared.pieces.Piece.{Piece}
use Rattle.acpi_c.specs.declared.refusal.Refusal.{Refusal}
use Rattle.acpi_c.specs.declared.refusal.Refusal.TheVariants as refusal

-- why the piece at this index cannot be added
abbrev pub piece_refusal : ℕ → ImageFault → Refusal
piece_refusal index image.PastEnd = refusal.PiecePastEnd index
piece_refusal index (image.Twice address) = refusal.PiecesOverlap index address
piece_refusal index image.Memory = refusal.OutOfMemory

-- `rest`, unless the piece at this index cannot be added
abbrev pub unless_refused : Option ImageFault → ℕ → Result Memory Refusal → Result Memory Refusal
unless_refused None index rest = rest
unless_refused (Some fault) index rest = Err (piece_refusal index fault)

-- The image with these pieces added in their order, the first of which has this index; or the first piece that cannot
-- be added, and why: it passes the address 2^64 - 1, or shares addresses with what is present.
abbrev pub with_pieces : ℕ → Memory → List Piece → Result Memory Refusal
with_pieces index m [] = Ok m
with_pieces index m (p ∷ rest) =
    unless_refused
    (add_refusal m p.address p.bytes.now)
    index
    (with_pieces (suc index) (with_bytes m p.address p.bytes.now) rest)

-- there are no pieces, or the first one can be added to an image without bytes
abbrev pub FirstFits : List Piece → Type 0
FirstFits [] = Unit {0}
FirstFits (p ∷ rest) = add_refusal empty p.address p.bytes.now ≡ None
