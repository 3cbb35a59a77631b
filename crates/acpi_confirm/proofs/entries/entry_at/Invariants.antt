use Rattle.std.proofs.Common.{length, ◌-◌}
use Rattle.acpi_confirm.specs.Walks.{IsOnWay}
use Rattle.acpi_confirm.proofs.entries.entry_at.Given as goal

abbrev pub invariant-loop-start : goal.invariant-loop-start
invariant-loop-start l = IsOnWay l.first l.start l.whole l.at

abbrev pub decreases-loop-start : goal.decreases-loop-start
decreases-loop-start l = length l.whole - l.start
