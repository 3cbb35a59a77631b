use Rattle.acpi_base.specs.Slit.{slit_contents}
use Rattle.acpi_lint.proofs.SlitFaults.{NoneBefore}
use Rattle.acpi_lint.proofs.slit.rows_differ.Given as goal

-- the distances of the rows so far do not differ
abbrev pub invariant-loop-i : goal.invariant-loop-i
invariant-loop-i l = NoneBefore (slit_contents l.fn.bytes) l.i
