use Rattle.acpi_check.proofs.SetFaults.FirstFaults.{root_first}
use Rattle.acpi_check.proofs.root.check_root.Goals as goal

pub returns-in-Err : goal.returns-in-Err
returns-in-Err c = λ q clean is.
    let read = c.in-Err.ensures in
    let place = c.place_of_fault in
    root_first c.args.image.now q c.at.result c.args.rsdp.now place.result c.in-Err.code clean is c.at.ensures
    place.ensures.none place.ensures.named read.stage read.fault read.least
