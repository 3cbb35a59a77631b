use Rattle.acpi_base.specs.Pptt.{pptt_contents}
use Rattle.acpi_lint.proofs.OneCodes.{cycle_least}
use Rattle.acpi_lint.proofs.one_code.cycle_place.Goals as goal

pub returns-in-Some : goal.returns-in-Some
returns-in-Some c =
    cycle_least c.args.chain (pptt_contents c.args.pptt.now) c.in-Some.fault (rw c.in-Some.is at c.in_ok-fault.ensures)
