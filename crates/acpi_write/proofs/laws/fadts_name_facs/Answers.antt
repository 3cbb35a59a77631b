use Rattle.acpi_write.proofs.NewSets.NamedFacs.{fadts_name_facs}
use Rattle.acpi_write.proofs.laws.fadts_name_facs.Goals as goal

pub returns : goal.returns
returns c = fadts_name_facs
