use Rattle.acpi_examples.proofs.Slits.{slit_said, slit_faults, valid_slits}
use Rattle.acpi_examples.proofs.Pptts.{pptt_said, pptt_faults, cycle_faults, no_pptt_fault}
use Rattle.acpi_examples.proofs.laws.slit_and_pptt_examples.Goals as goal

pub returns : goal.returns
returns c = record {
  slit = slit_said;
  slit_faults = slit_faults;
  valid_slit = valid_slits;
  pptt = pptt_said;
  pptt_faults = pptt_faults;
  cycles = cycle_faults;
  valid_pptt = no_pptt_fault;
}
