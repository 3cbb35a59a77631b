use Rattle.std.proofs.Common.{subst, sym}
use Rattle.acpi_c.specs.AddedPieces.{Stands}
use Rattle.acpi_c.specs.Sources.{Fails, pieces_source}
use Rattle.acpi_c.proofs.AddedPieces.{stopped}
use Rattle.acpi_c.proofs.pieces.image_by_copying.Goals as goal

pub returns-in-Err : goal.returns-in-Err
returns-in-Err c =
    let pieces = c.args.pieces.now in
    let refused = c.in-Err.ensures.err in
    let once = c.in_default-first_twice.ensures in
    subst (Fails (pieces_source pieces)) (sym c.of_piece.ensures)
    (stopped pieces c.in-Err.index once.0 c.in-Err.fault (subst (Stands pieces c.in-Err.index) once.1 refused.0)
    refused.1 refused.2)
