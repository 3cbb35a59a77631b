use Rattle.std.proofs.Common.{◌≡◌, ◌⊎◌}
use Rattle.acpi_c.specs.AddedPieces.{Stands}
use Rattle.acpi_c.specs.Pieces.{FirstFits}
use Rattle.acpi_c.proofs.pieces.add_pieces.Given as goal

abbrev pub invariant-loop-index : goal.invariant-loop-index
invariant-loop-index l = record {
  stands : Stands l.pieces l.index l.draft;
  begun : (l.index ≡ 0) ⊎ FirstFits l.pieces;
}
