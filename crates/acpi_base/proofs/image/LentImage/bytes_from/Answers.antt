use Rattle.std.proofs.Common.{◌∙◌}
use Rattle.acpi_base.specs.Image.Lent.{runs_of_parts}
use Rattle.acpi_base.proofs.Images.RunMemory.{bytes_at_present}
use Rattle.acpi_base.proofs.Images.Rests.{windows_of_rest}
use Rattle.acpi_base.proofs.image.LentImage.bytes_from.Goals as goal

pub returns : goal.returns
returns c = λ n.
    let rs = runs_of_parts c.self.inside.parts in
    rw (← c.self.view_is)
    (bytes_at_present rs c.args.address n
    ∙ windows_of_rest rs c.args.address c.rest_from.result.now c.rest_from.ensures n)
