use Rattle.std.proofs.Common.{◌<◌, length, arith}
use Rattle.std.proofs.lemmas.Bool.Decides.{nat_tests}
use Rattle.acpi_base.specs.Image.Segments.{runs_of}
use Rattle.acpi_base.proofs.Images.LentRuns.{rest_some}
use Rattle.acpi_base.proofs.image.segments.Segments.first_from.Goals as goal

pub returns-then-not-is_empty-clause-some : goal.returns-then-not-is_empty-clause-some
returns-then-not-is_empty-clause-some c =
    let bytes = c.rest_from.result.now in
    let some : 0 < length bytes = grind (arith, nat_tests, c.is_empty.ensures, c.if-not-is_empty.true) in (
      omega arith,
      rest_some (runs_of c.args.self.now) c.args.address bytes c.rest_from.ensures some,
      λ x l m. absurd (omega arith),
    )
