use Rattle.acpi_lint.proofs.SlitFaults.{AreTens}
use Rattle.acpi_lint.proofs.slit.diagonal_place.Given as goal

-- the cells so far are 10
abbrev pub invariant-loop-i : goal.invariant-loop-i
invariant-loop-i l = AreTens l.fn.bytes l.fn.count l.i
