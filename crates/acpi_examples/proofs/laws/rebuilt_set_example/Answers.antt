use Rattle.acpi_examples.proofs.RebuiltSets.{is_said, is_rebuilt}
use Rattle.acpi_examples.proofs.laws.rebuilt_set_example.Goals as goal

pub returns : goal.returns
returns c = record { value = is_said; rebuilt = is_rebuilt }
