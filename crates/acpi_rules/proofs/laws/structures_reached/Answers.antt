use Rattle.acpi_rules.proofs.Reached.{structures_reached}
use Rattle.acpi_rules.proofs.laws.structures_reached.Goals as goal

pub returns : goal.returns
returns c = record { reached = structures_reached }
