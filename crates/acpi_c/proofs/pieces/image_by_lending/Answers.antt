use Rattle.acpi_c.proofs.PermutedPieces.{permuted_image}
use Rattle.acpi_c.proofs.pieces.image_by_lending.Goals as goal

pub returns : goal.returns
returns c =
    permuted_image c.args.pieces.now c.in-Ok.sorted.items c.image_in_order-2.result c.ok-2.result c.ok-2.ensures.value
    c.in-Ok.ensures (rw c.deref.ensures.value at c.image_in_order-2.ensures)
