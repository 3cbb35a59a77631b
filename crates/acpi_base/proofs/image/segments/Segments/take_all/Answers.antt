use Rattle.std.proofs.Common.{◌≡◌, ◌<◌, ◌≤◌, length, get_or, arith}
use Rattle.std.proofs.lemmas.List.{get_or_default}
use Rattle.acpi_base.specs.Image.Pieces.{Piece, end_at}
use Rattle.acpi_base.proofs.Images.Stores.{of_all}
use Rattle.acpi_base.proofs.Images.SegmentOrder.{left_next, next_left, next_ends}
use Rattle.acpi_base.proofs.image.segments.Segments.take_all.Goals as goal

pub loop-piece-preserved : goal.loop-piece-preserved
loop-piece-preserved c =
    let ps = c.args.pieces.now in
    let i = c.loop-piece.piece-index in
    let none : Piece = (0, record { start = 0; len = 0 }) in
    let p : Piece = get_or ps i none in
    let test = c.loop-piece-test.true in
    let last = c.loop-piece.auto.piece-index-end in
    let low : i < length ps = omega arith in
    let is : p ≡ get_or ps i p = get_or_default ps i none p low in
    let left = c.loop-piece.invariant.left in
    let next = next_left c.args.store.now _ c.loop-piece.self ps i p left low is in
    let ends = next_ends c.args.store.now c.loop-piece.self p c.bytes.result.now _ next c.bytes.ensures
    c.in_ok-take.ensures.end in
    record {
      left = left_next c.args.store.now _ c.loop-piece.self c.take.new.self ps i p c.bytes.result.now left low is
          c.bytes.ensures c.in_ok-take.ensures.valid c.in_ok-take.ensures.ok c.in_ok-take.ensures.end;
      end = λ a l all. (let within = of_all (λ (q : Piece). end_at q ≤ a) ps i none all low in omega arith);
    }
