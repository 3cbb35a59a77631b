use Rattle.acpi_base.proofs.Faults.Laws.{clean_or_fault}
use Rattle.acpi_base.proofs.laws.clean_or_fault.Goals as goal

pub returns : goal.returns
returns c = record { either = clean_or_fault }
