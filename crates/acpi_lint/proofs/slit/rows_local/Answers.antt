use Rattle.std.proofs.Common.{below_more, arith}
use Rattle.acpi_base.specs.Slit.{slit_contents}
use Rattle.acpi_lint.proofs.RemoteCells.{first_local_row, no_local_row}
use Rattle.acpi_lint.proofs.slit.rows_local.Goals as goal

pub returns-in-Some : goal.returns-in-Some
returns-in-Some c =
    first_local_row (slit_contents c.args.bytes.now) c.loop-i.i c.in-Some.place c.loop-i.invariant c.in-Some.ensures

pub loop-i-preserved : goal.loop-i-preserved
loop-i-preserved c = below_more _ _ c.loop-i.invariant c.in_default.ensures

pub returns : goal.returns
returns c =
    no_local_row (slit_contents c.args.bytes.now) c.loop-i.i c.loop-i.invariant
    (omega (arith, c.loop-i-test.false, c.requires.count))
