use Rattle.acpi_write.proofs.SetParts.PartPlaces.{clean_parts_are_laid}
use Rattle.acpi_write.proofs.laws.clean_parts_are_laid.Goals as goal

pub returns : goal.returns
returns c = clean_parts_are_laid
