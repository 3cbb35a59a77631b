use Rattle.acpi_write.proofs.OldSets.OldTables.{value_is_one}
use Rattle.acpi_write.proofs.laws.one_set_value.Goals as goal

pub returns : goal.returns
returns c = value_is_one
