use Rattle.acpi_lint.proofs.OddFields.{first_reserved}
use Rattle.acpi_lint.proofs.rsdp_advice.rsdp_reserved.Goals as goal

pub returns : goal.returns
returns c =
    rw c.or.ensures
    (first_reserved c.args.image.now c.args.rsdp c.odd_revision.result c.odd_extended.result c.odd_revision.ensures
    c.odd_extended.ensures)
