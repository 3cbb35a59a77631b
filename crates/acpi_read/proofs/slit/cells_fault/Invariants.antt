use Rattle.acpi_base.specs.Slit.{slit_contents}
use Rattle.acpi_read.specs.Slits.{AreValidTo}
use Rattle.acpi_read.proofs.slit.cells_fault.Given as goal

-- the cells of the rows above are valid
abbrev pub invariant-loop-i : goal.invariant-loop-i
invariant-loop-i l = AreValidTo (slit_contents l.bytes) l.i 0

-- and those to the left are valid
abbrev pub invariant-loop-j : goal.invariant-loop-j
invariant-loop-j l = AreValidTo (slit_contents l.bytes) l.i l.j
