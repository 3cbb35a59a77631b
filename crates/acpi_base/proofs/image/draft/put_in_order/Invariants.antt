use Rattle.acpi_base.proofs.Images.Ordered.{ArePlaced}
use Rattle.acpi_base.proofs.image.draft.put_in_order.Given as goal

-- the bytes of the pieces before the i-th have been put in order
abbrev pub invariant-loop-i : goal.invariant-loop-i
invariant-loop-i l = ArePlaced l.store l.initial.pieces.items l.i l.ordered.items l.pieces.items
