use Rattle.std.proofs.Common.{◌≡◌, length, ◌-◌}
use Rattle.acpi_base.specs.Entries.{end_of_entries}
use Rattle.acpi_confirm.proofs.entries.cut.Given as goal

abbrev pub invariant-loop-entry : goal.invariant-loop-entry
invariant-loop-entry l = end_of_entries l.start l.whole ≡ end_of_entries l.first l.whole

abbrev pub decreases-loop-entry : goal.decreases-loop-entry
decreases-loop-entry l = length l.whole - l.start
