use Rattle.acpi_write.proofs.SetParts.Refusals.{refused_is_not_rebuilt}
use Rattle.acpi_write.proofs.laws.refused_sets_are_not_rebuilt.Goals as goal

pub returns : goal.returns
returns c = refused_is_not_rebuilt
