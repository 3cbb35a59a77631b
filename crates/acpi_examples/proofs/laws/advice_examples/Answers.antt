use Rattle.acpi_examples.proofs.AdviceDevices.{devices_advised}
use Rattle.acpi_examples.proofs.AdviceFadt.{fadt_advised}
use Rattle.acpi_examples.proofs.AdviceFadtFields.{fadt_fields_advised}
use Rattle.acpi_examples.proofs.AdviceGic.{gic_advised}
use Rattle.acpi_examples.proofs.AdviceHierarchy.{hierarchy_advised}
use Rattle.acpi_examples.proofs.AdviceRanges.{ranges_advised}
use Rattle.acpi_examples.proofs.AdviceSet.{sets_advised}
use Rattle.acpi_examples.proofs.AdviceSlit.{slit_advised}
use Rattle.acpi_examples.proofs.AdviceSlots.{slots_advised}
use Rattle.acpi_examples.proofs.Rows.{rows_found}
use Rattle.acpi_examples.proofs.laws.advice_examples.Goals as goal

pub returns : goal.returns
returns c = record {
  slots = slots_advised;
  sets = sets_advised;
  fadt = fadt_advised;
  fadt_fields = fadt_fields_advised;
  slit = slit_advised;
  hierarchy = hierarchy_advised;
  gic = gic_advised;
  ranges = ranges_advised;
  devices = devices_advised;
  rows = rows_found;
}
