use Rattle.std.proofs.Common.{rules, tests}
use Rattle.acpi_base.specs.Madt.{IsEnabledProcessor, madt_entry, madt_contents}
use Rattle.acpi_confirm.proofs.EntriesAt.{found}
use Rattle.acpi_confirm.proofs.cross.has_enabled.Goals as goal

pub returns : goal.returns
unfolding madt_contents
returns c = found madt_entry _ (IsEnabledProcessor c.args.processors c.args.number) _ c.has_entry.result
    c.has_entry.ensures (λ entry b answer. search (rules, tests))
