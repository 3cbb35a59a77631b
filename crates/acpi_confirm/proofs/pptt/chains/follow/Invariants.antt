use Rattle.std.proofs.Common.{Some}
use Rattle.acpi_base.specs.Pptt.{pptt_contents}
use Rattle.acpi_confirm.specs.References.{Names}
use Rattle.acpi_confirm.specs.Walks.{IsOnly}
use Rattle.acpi_confirm.proofs.Chains.{IsLed}
use Rattle.acpi_confirm.proofs.pptt.chains.follow.Given as goal

abbrev pub invariant-loop-left : goal.invariant-loop-left
invariant-loop-left l =
    IsLed (Names l.chain (pptt_contents l.pptt)) l.from l.steps l.here.at l.left
    × IsOnly (Names l.chain (pptt_contents l.pptt) l.here.at) (Some l.here.names)

abbrev pub decreases-loop-left : goal.decreases-loop-left
decreases-loop-left l = l.left
