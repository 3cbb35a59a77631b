use Rattle.std.proofs.Common.{rules}
use Rattle.acpi_base.specs.Madt.{madt_contents}
use Rattle.acpi_read.specs.Madts.{madt_value}
use Rattle.acpi_lint.specs.Overrides.{ServesNumber}
use Rattle.acpi_lint.proofs.SomeEntries.{any_of_entries}
use Rattle.acpi_lint.proofs.SciGsis.{served}
use Rattle.acpi_lint.proofs.sci.is_served.Goals as goal

pub returns : goal.returns
returns c =
    let q = c.args.policy.now in
    served q (madt_contents c.args.madt.now) c.args.gsi c.is_some.result
    (rw c.is_some.ensures
    (any_of_entries madt_value (ServesNumber q c.args.gsi) c.first_picked.result c.first_picked.ensures
    c.entries.ensures.entries (λ at picked answers. search rules)))
