use Rattle.acpi_lint.proofs.SlitFaults.{AreHigh}
use Rattle.acpi_lint.proofs.slit.low_place.Given as goal

-- the cells so far are at least 10
abbrev pub invariant-loop-at : goal.invariant-loop-at
invariant-loop-at l = AreHigh l.fn.bytes l.at
