use Rattle.acpi_base.proofs.Root.Lists.{roots_list_slots}
use Rattle.acpi_base.proofs.laws.roots_list_slots.Goals as goal

pub returns : goal.returns
returns c = record { slots = roots_list_slots }
