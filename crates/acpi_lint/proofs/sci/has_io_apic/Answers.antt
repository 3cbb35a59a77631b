use Rattle.std.proofs.Common.{rules}
use Rattle.acpi_base.specs.Across.{IsIoApic}
use Rattle.acpi_read.specs.Madts.{madt_value}
use Rattle.acpi_lint.proofs.SomeEntries.{any_of_entries}
use Rattle.acpi_lint.proofs.sci.has_io_apic.Goals as goal

pub returns : goal.returns
returns c =
    rw c.is_some.ensures
    (any_of_entries madt_value IsIoApic c.first_picked.result c.first_picked.ensures c.entries.ensures.entries
    (λ at picked answers. search rules))
