use Rattle.acpi_examples.proofs.Madts.{madt_said, madt_faults, first_interrupt, no_madt_fault}
use Rattle.acpi_examples.proofs.Srats.{srat_said, srat_faults, first_overlaps, no_srat_fault}
use Rattle.acpi_examples.proofs.laws.madt_and_srat_examples.Goals as goal

pub returns : goal.returns
returns c = record {
  madt = madt_said;
  srat = srat_said;
  madt_faults = madt_faults;
  srat_faults = srat_faults;
  first_interrupt = first_interrupt;
  first_overlaps = first_overlaps;
  valid_madt = no_madt_fault;
  valid_srat = no_srat_fault;
}
