use Rattle.acpi_write.proofs.SetParts.Refusals.{placed_unless_refused}
use Rattle.acpi_write.proofs.laws.placed_unless_refused.Goals as goal

pub returns : goal.returns
returns c = placed_unless_refused
