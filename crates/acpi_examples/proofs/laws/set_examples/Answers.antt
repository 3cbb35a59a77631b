use Rattle.acpi_examples.proofs.Sets.{listed, set_faults}
use Rattle.acpi_examples.proofs.laws.set_examples.Goals as goal

pub returns : goal.returns
returns c = record { listed = listed; faults = set_faults }
