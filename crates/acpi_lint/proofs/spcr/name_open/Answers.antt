use Rattle.acpi_lint.proofs.SpcrBytes.{no_name, open_name}
use Rattle.acpi_lint.proofs.spcr.name_open.Goals as goal

pub returns-in_err-last : goal.returns-in_err-last
returns-in_err-last c =
    rw c.from_residual.ensures
    (no_name c.args.spcr.now (rw (c.name_end.ensures, c.bytes-bytes.ensures.bytes) at c.in_err-last.was))

pub returns : goal.returns
returns c =
    rw (c.then_some.ensures, c.from.ensures)
    (open_name c.args.spcr.now c.in_ok-last.last c.u8_at-byte.result
    (rw (c.name_end.ensures, c.bytes-bytes.ensures.bytes) at c.in_ok-last.was)
    (rw c.bytes-bytes.ensures.bytes at c.u8_at-byte.ensures))
