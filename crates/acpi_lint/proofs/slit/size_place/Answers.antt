use Rattle.std.proofs.Common.{inl, inr, arith}
use Rattle.acpi_base.specs.Slit.{slit_contents}
use Rattle.acpi_base.proofs.Slit.{slit_size}
use Rattle.acpi_read.proofs.SlitCells.{right_size}
use Rattle.acpi_lint.proofs.SlitFaults.{size_fault, no_size_fault}
use Rattle.acpi_lint.proofs.slit.size_place.Goals as goal

pub returns-then-bytes-lt-CELLS : goal.returns-then-bytes-lt-CELLS
returns-then-bytes-lt-CELLS c =
    let whole = c.args.bytes.now in
    no_size_fault (slit_contents whole) (inl (omega (arith, slit_size whole, c.if-bytes-lt-CELLS.true)))

pub returns-in-Some : goal.returns-in-Some
returns-in-Some c =
    let whole = c.args.bytes.now in
    no_size_fault (slit_contents whole) (inr (right_size whole _ c.in-Some.ensures))

pub returns-in-None : goal.returns-in-None
returns-in-None c =
    let whole = c.args.bytes.now in
    rw c.at.ensures
    (size_fault (slit_contents whole) (omega (arith, slit_size whole, c.if-bytes-lt-CELLS.false)) c.in-None.ensures)
