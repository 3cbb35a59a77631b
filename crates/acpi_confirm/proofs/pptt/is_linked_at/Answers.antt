use Rattle.acpi_base.specs.Pptt.{pptt_contents}
use Rattle.acpi_confirm.specs.References.{Names}
use Rattle.acpi_confirm.proofs.EntriesAt.{only_some}
use Rattle.acpi_confirm.proofs.pptt.is_linked_at.Goals as goal

pub returns : goal.returns
returns c = rw c.is_some.ensures
    (only_some (Names c.args.chain (pptt_contents c.args.pptt.now) c.args.at) c.named_at.result c.named_at.ensures)
