use Rattle.std.proofs.Common.{inl, refl, sym, subst}
use Rattle.acpi_c.specs.AddedPieces.{Stands}
use Rattle.acpi_c.proofs.AddedPieces.{begun_next, stands_first, stands_next}
use Rattle.acpi_c.proofs.pieces.add_pieces.Goals as goal

pub loop-index-init : goal.loop-index-init
loop-index-init c = record {
  stands = subst (Stands c.args.pieces.now 0) (sym c.requires) (stands_first c.args.pieces.now);
  begun = inl refl;
}

pub loop-index-preserved : goal.loop-index-preserved
loop-index-preserved c =
    let ps = c.args.pieces.now in
    let invariant = c.loop-index.invariant in
    record {
      stands = stands_next ps c.loop-index.index _ c.loop-index.draft c.add.new.self c.loop-index-test.true
          c.in_default.ensures.fits c.in_default.ensures.ok invariant.stands;
      begun = begun_next ps c.loop-index.index _ c.loop-index-test.true c.in_default.ensures.fits invariant.begun;
    }
