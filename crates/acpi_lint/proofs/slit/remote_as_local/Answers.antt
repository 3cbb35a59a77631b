use Rattle.acpi_lint.specs.Rules.SlitAdvice.{IsRemoteAsLocal}
use Rattle.acpi_lint.proofs.SlitFaults.{sized}
use Rattle.acpi_lint.proofs.slit.remote_as_local.Goals as goal

pub returns : goal.returns
returns c =
    let same = c.bytes-bytes.ensures.bytes in
    sized IsRemoteAsLocal c.args.slit.now _ c.rows_local.result (rw same at c.in_ok-rows.ensures)
    (rw same at c.rows_local.ensures)
