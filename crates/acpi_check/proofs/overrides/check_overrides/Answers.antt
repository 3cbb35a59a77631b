use Rattle.acpi_base.specs.Madt.{madt_contents}
use Rattle.acpi_check.proofs.EntryPasses.OverridesPass.{clash}
use Rattle.acpi_check.proofs.overrides.check_overrides.Goals as goal

pub returns-in-Some-clause-settled : goal.returns-in-Some-clause-settled
returns-in-Some-clause-settled c =
    clash (madt_contents c.args.madt.now) c.in-Some.found c.in-Some.ensures
