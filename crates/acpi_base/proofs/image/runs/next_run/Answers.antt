use Rattle.std.proofs.Common.{refl, ◌∙◌}
use Rattle.acpi_base.specs.Image.Lent.{runs_of_parts}
use Rattle.acpi_base.proofs.Images.RunBytes.{byte_of_memory_of}
use Rattle.acpi_base.proofs.Images.Rests.{next_of}
use Rattle.acpi_base.proofs.image.runs.next_run.Goals as goal

pub returns-in_err-base : goal.returns-in_err-base
returns-in_err-base c =
    rw c.from_residual.ensures
    (λ x from. byte_of_memory_of (runs_of_parts c.args.parts.now) x ∙ c.in_err-base.ensures.none refl x from)

pub returns : goal.returns
returns c =
    next_of (runs_of_parts c.args.parts.now) c.args.address c.in_ok-base.base c.rest_from.result.now
    c.in_ok-base.ensures.some c.rest_from.ensures
