use Rattle.acpi_base.specs.Madt.{madt_contents}
use Rattle.acpi_lint.proofs.SciGsis.{nowhere_at}
use Rattle.acpi_lint.proofs.sci.sci_nowhere.Goals as goal

pub returns : goal.returns
returns c =
    let number = rw (c.u16_at.ensures, c.bytes.ensures.bytes) at c.gsi_of-gsi.ensures in
    rw c.then_some.ensures
    (nowhere_at c.args.policy.now c.args.fadt.now (madt_contents c.args.madt.now) c.gsi_of-gsi.result
    c.is_nowhere.result number.is number.one c.is_nowhere.ensures)
