-- Pieces that are added one after another, of which one may repeat an address.
use Rattle.std.specs.Prelude.{◌≡◌, ℕ, suc, ◌+◌, ◌^◌, ◌<◌, ◌≤◌, List, [], ◌∷◌, length, drop, Bool, true, false, nat_le, nat_lt, ◌&&◌, is_some, if◌then◌else◌, Result, Ok, Err}
use Rattle.std.specs.FinMap.{empty}
use Rattle.acpi_base.specs.Memory.{Memory, byte_of}
use Rattle.acpi_base.specs.declared.image.ImageFault.{ImageFault}
use Rattle.acpi_base.specs.declared.image.ImageFault.TheVariants as image
use Rattle.acpi_c.specs.Pieces.{with_pieces}
use Rattle.acpi_c.specs.declared.pieces.Piece.{Piece}
use Rattle.acpi_c.specs.declared.refusal.Refusal.TheVariants as refusal

abbrev pub has_address : Piece → ℕ → Bool
has_address p a = nat_le p.address a && nat_lt a (p.address + length p.bytes.now)

-- The index of the second piece with this address, if the first piece of the list has this index. If the address has
-- occurred, it is that of the first piece with it.
abbrev pub second_with : Bool → ℕ → List Piece → ℕ → ℕ
second_with seen index [] a = index
second_with seen index (p ∷ rest) a =
    if has_address p a
    then (if seen then index else second_with true (suc index) rest a)
    else second_with seen (suc index) rest a

-- The pieces before this index make up this memory, and the others are added to it; or they repeat an address, this one
-- first.
abbrev pub Stands : List Piece → ℕ → Result Memory ℕ → Type 0
Stands pieces index (Ok m) =
    (with_pieces index m (drop index pieces) ≡ with_pieces 0 empty pieces)
    × ((a : ℕ) → second_with (is_some (byte_of m a)) index (drop index pieces) a ≡ second_with false 0 pieces a)
Stands pieces index (Err a) = with_pieces 0 empty pieces ≡ Err (refusal.PiecesOverlap (second_with false 0 pieces a) a)

-- the first of these pieces passes the last address; or it does not, and memory runs out
abbrev pub RefusesFirst : List Piece → ImageFault → Type 0
RefusesFirst [] fault = ⊥
RefusesFirst (p ∷ rest) image.PastEnd = 2 ^ 64 < p.address + length p.bytes.now
RefusesFirst (p ∷ rest) (image.Twice address) = ⊥
RefusesFirst (p ∷ rest) image.Memory = p.address + length p.bytes.now ≤ 2 ^ 64
