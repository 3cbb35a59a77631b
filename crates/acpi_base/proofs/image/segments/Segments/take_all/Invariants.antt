use Rattle.std.proofs.Common.{ℕ, ◌≤◌, drop}
use Rattle.std.specs.Option.{option_or}
use Rattle.std.specs.List.{AllByRecursion}
use Rattle.acpi_base.specs.Memory.{byte_of}
use Rattle.acpi_base.specs.Image.Runs.{lookup}
use Rattle.acpi_base.specs.Image.Pieces.{end_at, runs_in}
use Rattle.acpi_base.specs.Image.Segments.{end_in, memory_in}
use Rattle.acpi_base.proofs.Images.SegmentOrder.{IsLeft}
use Rattle.acpi_base.proofs.image.segments.Segments.take_all.Given as goal

-- the pieces from here on are left, and those before them end where the segments do or before it
abbrev pub invariant-loop-piece : goal.invariant-loop-piece
invariant-loop-piece l = record {
  left : IsLeft l.store (λ x. option_or (byte_of (memory_in l.initial.self) x) (lookup (runs_in l.store l.pieces) x))
      l.self (drop l.piece-index l.pieces);
  end : (a : ℕ) → end_in l.initial.self ≤ a → AllByRecursion (λ p. end_at p ≤ a) l.pieces → end_in l.self ≤ a;
}
