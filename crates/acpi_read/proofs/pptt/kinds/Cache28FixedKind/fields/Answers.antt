use Rattle.std.proofs.Common.{Some}
use Rattle.acpi_base.specs.Number.{field}
use Rattle.acpi_read.proofs.pptt.kinds.Cache28FixedKind.fields.Goals as goal

pub returns : goal.returns
returns c = rw c.u32_at.ensures (c.first_fields.ensures (Some (field c.args.bytes.now 24 4)))
