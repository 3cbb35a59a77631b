use Rattle.acpi_base.specs.Madt.{madt_contents}
use Rattle.acpi_lint.proofs.WellFormedTables.{madt_well_formed}
use Rattle.acpi_lint.proofs.well_formed.is_madt_well_formed.Goals as goal

pub returns : goal.returns
returns c =
    let same = madt_well_formed c.args.policy.now (madt_contents c.args.madt.now) in
    (λ true. same.0 (c.is_well_formed.ensures.0 true), λ is. c.is_well_formed.ensures.1 (same.1 is))
