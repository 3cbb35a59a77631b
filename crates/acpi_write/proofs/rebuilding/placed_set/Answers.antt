use Rattle.acpi_write.specs.Views.{set_value}
use Rattle.acpi_write.proofs.OldSets.OldTables.{facs_some}
use Rattle.acpi_write.proofs.rebuilding.placed_set.Goals as goal

pub placed-requires-clause-facs : goal.placed-requires-clause-facs
placed-requires-clause-facs c =
    facs_some c.args.image.now c.args.policy.now (set_value c.in_ok-value.value) c.in_ok-value.ensures.clean
    c.in_ok-value.ensures.value
