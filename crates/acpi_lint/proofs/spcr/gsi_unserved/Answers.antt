use Rattle.acpi_base.specs.Madt.{madt_contents}
use Rattle.acpi_lint.proofs.SpcrBytes.{no_gsi, unserved_gsi}
use Rattle.acpi_lint.proofs.spcr.gsi_unserved.Goals as goal

pub returns-in_err-gsi : goal.returns-in_err-gsi
returns-in_err-gsi c =
    rw c.from_residual.ensures
    (no_gsi c.args.policy.now c.args.spcr.now (madt_contents c.args.madt.now)
    (rw (c.io_apic_gsi.ensures, c.bytes.ensures.bytes) at c.in_err-gsi.was))

pub returns : goal.returns
returns c =
    rw c.then_some.ensures
    (unserved_gsi c.args.policy.now c.args.spcr.now (madt_contents c.args.madt.now) c.in_ok-gsi.gsi
    c.is_unserved.result (rw (c.io_apic_gsi.ensures, c.bytes.ensures.bytes) at c.in_ok-gsi.was) c.is_unserved.ensures)
