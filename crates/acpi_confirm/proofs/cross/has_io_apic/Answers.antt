use Rattle.std.proofs.Common.{rules, tests}
use Rattle.acpi_base.specs.Across.{IsIoApic}
use Rattle.acpi_base.specs.Madt.{madt_entry, madt_contents}
use Rattle.acpi_confirm.proofs.EntriesAt.{found}
use Rattle.acpi_confirm.proofs.cross.has_io_apic.Goals as goal

pub returns : goal.returns
unfolding madt_contents
returns c = found madt_entry _ IsIoApic _ c.has_entry.result c.has_entry.ensures
    (λ entry b answer. search (rules, tests))
