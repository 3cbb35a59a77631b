use Rattle.acpi_base.proofs.Faults.Laws.{clean_or_first_fault}
use Rattle.acpi_base.proofs.laws.first_fault_exists.Goals as goal

pub returns : goal.returns
returns c = record { either = clean_or_first_fault }
