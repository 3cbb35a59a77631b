use Rattle.std.proofs.Common.{◌≡◌, false, drop}
use Rattle.acpi_c.specs.AddedPieces.{second_with}
use Rattle.acpi_c.proofs.pieces.second_with.Given as goal

-- the search goes on from here as it began
abbrev pub invariant-loop-index : goal.invariant-loop-index
invariant-loop-index l =
    second_with l.seen l.index (drop l.index l.pieces) l.address ≡ second_with false 0 l.pieces l.address
