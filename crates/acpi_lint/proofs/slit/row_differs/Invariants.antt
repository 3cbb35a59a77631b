use Rattle.acpi_lint.proofs.SlitFaults.{AreSame}
use Rattle.acpi_lint.proofs.slit.row_differs.Given as goal

-- the distances so far are the same both ways
abbrev pub invariant-loop-j : goal.invariant-loop-j
invariant-loop-j l = AreSame l.fn.bytes l.fn.count l.fn.i l.j
