use Rattle.acpi_base.proofs.Faults.Laws.{fault_excludes_clean}
use Rattle.acpi_base.proofs.laws.fault_excludes_clean.Goals as goal

pub returns : goal.returns
returns c = record { excluded = fault_excludes_clean }
