use Rattle.acpi_confirm.proofs.Across.{typed}
use Rattle.acpi_confirm.proofs.cross.are_types_known.Goals as goal

pub returns-in-None : goal.returns-in-None
returns-in-None c =
    typed c.args.madt.now c.has_opaque.result c.if-madt-lt44.false c.in-None.ensures c.has_opaque.ensures
