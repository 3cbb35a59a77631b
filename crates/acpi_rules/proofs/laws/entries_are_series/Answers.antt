use Rattle.acpi_rules.proofs.Today.{entries_are_series}
use Rattle.acpi_rules.proofs.laws.entries_are_series.Goals as goal

pub returns : goal.returns
returns c = record { same = entries_are_series }
