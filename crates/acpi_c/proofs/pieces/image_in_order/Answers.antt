use Rattle.std.proofs.Common.{inl, refl, subst, sym}
use Rattle.acpi_c.specs.Sources.{Fails, pieces_source}
use Rattle.acpi_c.proofs.AddedPieces.{begun_added, refused_in_order}
use Rattle.acpi_c.proofs.PermutedPieces.{more}
use Rattle.acpi_c.proofs.pieces.image_in_order.Goals as goal

pub loop-index-init : goal.loop-index-init
loop-index-init c = record { added = rw c.new-image.ensures.nothing refl; begun = inl refl }

pub loop-index-preserved : goal.loop-index-preserved
loop-index-preserved c =
    let ps = c.args.pieces.now in
    let free = c.in_default.ensures.ok.0 in
    record {
      added = more ps c.loop-index.index _ c.loop-index.image c.put.new.image c.loop-index-test.true free
          c.in_default.ensures.ok.1 c.loop-index.invariant.added;
      begun = begun_added ps c.loop-index.index _ c.loop-index.image c.loop-index-test.true free
          c.loop-index.invariant.begun;
    }

pub returns-in-Err : goal.returns-in-Err
returns-in-Err c =
    let ps = c.args.pieces.now in
    subst (Fails (pieces_source ps)) (sym c.of_piece.ensures)
    (refused_in_order ps c.loop-index.index _ c.loop-index.image c.put.result c.in-Err.fault c.in-Err.is
    c.loop-index-test.true c.put.ensures.refused c.loop-index.invariant.added c.loop-index.invariant.begun)
