use Rattle.acpi_base.specs.Slit.{slit_contents}
use Rattle.acpi_lint.proofs.RemoteCells.{NoneLocal}
use Rattle.acpi_lint.proofs.slit.rows_local.Given as goal

-- none of the distances of the rows so far is 10, but of localities from themselves
abbrev pub invariant-loop-i : goal.invariant-loop-i
invariant-loop-i l = NoneLocal (slit_contents l.fn.bytes) l.i
