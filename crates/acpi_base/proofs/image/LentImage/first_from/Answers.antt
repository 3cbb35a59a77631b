use Rattle.acpi_base.specs.Image.Lent.{runs_of_parts}
use Rattle.acpi_base.proofs.Images.Rests.{first_of}
use Rattle.acpi_base.proofs.image.LentImage.first_from.Goals as goal

pub returns : goal.returns
returns c =
    rw (← c.self.view_is)
    (first_of (runs_of_parts c.self.inside.parts) c.args.address c.first_from.result c.first_from.ensures.none
    c.first_from.ensures.some)
