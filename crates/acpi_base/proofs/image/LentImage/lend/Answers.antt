use Rattle.std.proofs.Common.{sym, length}
use Rattle.acpi_base.specs.Image.Lent.{runs_of_parts}
use Rattle.acpi_base.specs.Image.Runs.{lookup}
use Rattle.acpi_base.proofs.Images.Searches.{nothing_present}
use Rattle.acpi_base.proofs.Images.RunMemory.{fits_unless}
use Rattle.acpi_base.proofs.image.LentImage.lend.Goals as goal

pub lend-requires-clause-free : goal.lend-requires-clause-free
lend-requires-clause-free c = λ x from to.
    nothing_present (lookup (runs_of_parts c.self.inside.parts)) c.args.base (length c.args.bytes.now) x
    (fits_unless _ _ (sym c.in_default.ensures)).1 from to
