use Rattle.acpi_write.proofs.NewSets.KeptSets.{sets_are_kept}
use Rattle.acpi_write.proofs.laws.rebuilt_sets_are_kept.Goals as goal

pub returns : goal.returns
returns c = sets_are_kept
