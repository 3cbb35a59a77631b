use Rattle.std.proofs.Common.{◌-◌, length}
use Rattle.acpi_confirm.specs.Walks.{AreStarts}
use Rattle.acpi_confirm.proofs.Walks.{IsOver}
use Rattle.acpi_confirm.proofs.pptt.starts.note_starts.Given as goal

-- the entries that are left are the table's, and so are those that are noted
abbrev pub invariant-loop-entry : goal.invariant-loop-entry
invariant-loop-entry l = IsOver (λ e. Unit {0}) 36 l.start l.pptt × AreStarts l.size l.notes l.pptt

abbrev pub decreases-loop-entry : goal.decreases-loop-entry
decreases-loop-entry l = length l.pptt - l.start
