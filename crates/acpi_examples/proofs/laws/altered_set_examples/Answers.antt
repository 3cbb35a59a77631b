use Rattle.acpi_examples.proofs.AlteredSets.{rsdp_faults, root_faults, table_faults, fadt_faults, facs_faults}
use Rattle.acpi_examples.proofs.laws.altered_set_examples.Goals as goal

pub returns : goal.returns
returns c = record {
  rsdp_faults = rsdp_faults;
  root_faults = root_faults;
  table_faults = table_faults;
  fadt_faults = fadt_faults;
  facs_faults = facs_faults;
}
