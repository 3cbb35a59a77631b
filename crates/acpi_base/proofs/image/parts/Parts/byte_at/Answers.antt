use Rattle.std.proofs.Common.{◌∙◌}
use Rattle.acpi_base.specs.Image.Lent.{runs_of_parts}
use Rattle.acpi_base.proofs.Images.Rests.{rest_first}
use Rattle.acpi_base.proofs.image.parts.Parts.byte_at.Goals as goal

pub returns : goal.returns
returns c =
    c.copied.ensures ∙ c.first.ensures.value
    ∙ rest_first (runs_of_parts c.args.self.now) c.args.address c.rest_from.result.now c.rest_from.ensures
