use Rattle.std.proofs.Common.{◌≤◌, drop}
use Rattle.std.specs.List.{AllByRecursion}
use Rattle.acpi_base.specs.Image.Segments.{AreSegmentsApart}
use Rattle.acpi_base.proofs.image.draft.are_apart.Given as goal

-- the pieces from `i` on are apart, and begin at `next` or after it
abbrev pub invariant-loop-i : goal.invariant-loop-i
invariant-loop-i l = AreSegmentsApart (drop l.i l.pieces) × AllByRecursion (λ p. l.next ≤ p.0) (drop l.i l.pieces)
