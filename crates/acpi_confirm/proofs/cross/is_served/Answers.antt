use Rattle.std.proofs.Common.{rules, tests}
use Rattle.acpi_base.specs.Madt.{madt_entry, madt_contents}
use Rattle.acpi_confirm.specs.Madts.{ServesGsi}
use Rattle.acpi_confirm.proofs.Across.{served}
use Rattle.acpi_confirm.proofs.EntriesAt.{found}
use Rattle.acpi_confirm.proofs.cross.is_served.Goals as goal

pub returns : goal.returns
unfolding madt_contents
returns c = served c.args.policy.now (madt_contents c.args.madt.now) c.args.number c.has_entry.result
    (found madt_entry _ (ServesGsi c.args.policy.now c.args.number) _ c.has_entry.result c.has_entry.ensures
    (λ entry b answer. search (rules, tests)))
