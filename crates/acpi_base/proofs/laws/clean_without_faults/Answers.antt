use Rattle.acpi_base.proofs.FirstOfCode.{clean_without_faults, clean_without_firsts}
use Rattle.acpi_base.proofs.laws.clean_without_faults.Goals as goal

pub returns : goal.returns
returns c = record { faults = clean_without_faults; firsts = clean_without_firsts }
