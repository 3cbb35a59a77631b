use Rattle.std.proofs.Common.{None}
use Rattle.acpi_read.proofs.pptt.kinds.Cache24FixedKind.fields.Goals as goal

pub returns : goal.returns
returns c = c.first_fields.ensures None
