use Rattle.std.proofs.Common.{◌-◌, length}
use Rattle.acpi_graph.proofs.Walks.{Trail, StandsAt}
use Rattle.acpi_graph.proofs.stray.walk.Given as goal

abbrev pub invariant-loop-marks : goal.invariant-loop-marks
invariant-loop-marks l =
    Trail l.parents l.marks l.start l.before l.steps × StandsAt l.parents l.start l.before l.steps l.node

abbrev pub decreases-loop-marks : goal.decreases-loop-marks
decreases-loop-marks l = length l.marks - l.steps
