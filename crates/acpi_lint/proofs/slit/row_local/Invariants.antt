use Rattle.acpi_lint.proofs.RemoteCells.{AreRemote}
use Rattle.acpi_lint.proofs.slit.row_local.Given as goal

-- the distances to other localities so far are not 10
abbrev pub invariant-loop-j : goal.invariant-loop-j
invariant-loop-j l = AreRemote l.fn.bytes l.fn.count l.fn.i l.j
