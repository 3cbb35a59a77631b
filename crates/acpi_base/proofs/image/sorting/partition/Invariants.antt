use Rattle.acpi_base.proofs.Images.Partitioned.{ArePartitioned}
use Rattle.acpi_base.proofs.image.sorting.partition.Given as goal

-- the pieces before the i-th are partitioned at `count`
abbrev pub invariant-loop-i : goal.invariant-loop-i
invariant-loop-i l = ArePartitioned l.most l.initial.pieces l.pieces l.count l.i
