use Rattle.std.proofs.Common.{◌-◌, refl, ◌∙◌}
use Rattle.acpi_base.proofs.Images.LentRuns.{skipped}
use Rattle.acpi_base.proofs.Images.Rests.{no_rest, rest_of_run}
use Rattle.acpi_base.proofs.image.lent.rest_from.Goals as goal

pub returns-in_default : goal.returns-in_default
returns-in_default c = no_rest c.args.runs.now c.args.address c.in_default.ensures

pub returns : goal.returns
returns c =
    rest_of_run c.args.runs.now c.args.address c.in-Some.run'.now _ c.in-Some.ensures
    (skipped c.bytes-bytes.result.now (c.args.address - c.base.result) c.min-skipped.result c.min-skipped.ensures
    ∙ rw (c.base.ensures, c.bytes-bytes.ensures) refl)
