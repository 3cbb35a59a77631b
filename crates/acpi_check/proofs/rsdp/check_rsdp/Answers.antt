use Rattle.std.proofs.Common.{refl, sym}
use Rattle.acpi_check.proofs.SetFaults.FirstFaults.{rsdp_first}
use Rattle.acpi_check.proofs.rsdp.check_rsdp.Goals as goal

pub returns-in-Ok : goal.returns-in-Ok
returns-in-Ok c = λ q same. rw same (c.in-Ok.ensures.ok.0 refl, c.in-Ok.ensures.value)

pub returns-in-Err : goal.returns-in-Err
returns-in-Err c = λ q same.
    let read = c.in-Err.ensures in
    rsdp_first c.args.image.now q c.at.result c.args.address c.in-Err.code (sym same) c.at.ensures read.stage read.fault
    read.least
