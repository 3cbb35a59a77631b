use Rattle.std.proofs.Common.{rules, tests}
use Rattle.acpi_base.specs.Madt.{HasUid, madt_entry, madt_contents}
use Rattle.acpi_confirm.proofs.EntriesAt.{found}
use Rattle.acpi_confirm.proofs.cross.is_uid.Goals as goal

pub returns : goal.returns
unfolding madt_contents
returns c = found madt_entry _ (HasUid c.args.uid) _ c.has_entry.result c.has_entry.ensures
    (λ entry b answer. search (rules, tests))
