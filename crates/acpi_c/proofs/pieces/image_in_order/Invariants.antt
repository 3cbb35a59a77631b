use Rattle.std.proofs.Common.{◌≡◌, ◌⊎◌, drop}
use Rattle.std.specs.FinMap.{empty}
use Rattle.acpi_c.specs.Pieces.{FirstFits, with_pieces}
use Rattle.acpi_c.proofs.pieces.image_in_order.Given as goal

-- the pieces that are left are added to the image of the others
abbrev pub invariant-loop-index : goal.invariant-loop-index
invariant-loop-index l = record {
  added : with_pieces l.index l.image (drop l.index l.pieces) ≡ with_pieces 0 empty l.pieces;
  begun : (l.index ≡ 0) ⊎ FirstFits l.pieces;
}
