use Rattle.acpi_lint.specs.Rules.SlitAdvice.{IsSlitDiffers}
use Rattle.acpi_lint.proofs.SlitFaults.{sized}
use Rattle.acpi_lint.proofs.slit.slit_differs.Goals as goal

pub returns : goal.returns
returns c =
    let same = c.bytes-bytes.ensures.bytes in
    sized IsSlitDiffers c.args.slit.now _ c.rows_differ.result (rw same at c.in_ok-rows.ensures)
    (rw same at c.rows_differ.ensures)
