use Rattle.std.proofs.Common.{◌≡◌, drop}
use Rattle.acpi_lint.specs.Differences.{first_difference}
use Rattle.acpi_lint.proofs.root_advice.first_difference.Given as goal

-- the lists do not differ before this index
abbrev pub invariant-loop-i : goal.invariant-loop-i
invariant-loop-i l = first_difference (drop l.i l.ours) (drop l.i l.theirs) ≡ first_difference l.ours l.theirs
