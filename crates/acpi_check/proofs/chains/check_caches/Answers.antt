use Rattle.acpi_check.proofs.EntryPasses.Passes.{refused}
use Rattle.acpi_check.proofs.NodeLinks.ChainFaults.{caches_found}
use Rattle.acpi_check.proofs.chains.check_caches.Goals as goal

pub returns : goal.returns
returns c =
    refused _ _ _ c.in_ok-first_cycle.field-0 c.refuse.result c.refuse.ensures
    (caches_found c.args.pptt.now c.requires c.in_ok-first_cycle.field-0 c.in_ok-first_cycle.ensures)
