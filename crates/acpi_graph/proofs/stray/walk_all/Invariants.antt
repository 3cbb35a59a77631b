use Rattle.std.proofs.Common.{ℕ, ◌<◌}
use Rattle.acpi_graph.specs.Parents.{Ends}
use Rattle.acpi_graph.specs.Walks.{AreMarksOfEnded}
use Rattle.acpi_graph.proofs.stray.walk_all.Given as goal

abbrev pub invariant-loop-start : goal.invariant-loop-start
invariant-loop-start l = AreMarksOfEnded l.parents l.marks l.steps × ((node : ℕ) → node < l.start → Ends l.parents node)
