use Rattle.std.proofs.Common.{subst}
use Rattle.acpi_base.specs.Memory.{IsImage}
use Rattle.acpi_base.proofs.Images.Lent.{image_of_parts}
use Rattle.acpi_base.proofs.image.LentImage.numbers_fit.Goals as goal

pub returns : goal.returns
returns c = record { fit = subst IsImage c.self.view_is (image_of_parts c.self.inside.parts c.self.invariant) }
