use Rattle.std.proofs.Common.{rules}
use Rattle.acpi_read.specs.Madts.{madt_value}
use Rattle.acpi_check.proofs.EntryPasses.Kept.{madt_rising}
use Rattle.acpi_lint.specs.Overrides.{IsOwnOverride}
use Rattle.acpi_lint.proofs.FirstEntries.{least_of_entries}
use Rattle.acpi_lint.proofs.sci.first_override.Goals as goal

pub returns : goal.returns
returns c =
    least_of_entries madt_value (IsOwnOverride c.args.source) 44 c.first_picked.result c.first_picked.ensures
    c.entries.ensures.entries (madt_rising c.args.madt.now) (λ at picked here answers. search rules)
