use Rattle.std.proofs.Common.{◌∙◌}
use Rattle.acpi_base.specs.Image.Lent.{runs_of_parts}
use Rattle.acpi_base.proofs.Images.LentRuns.{rest_present, rest_short}
use Rattle.acpi_base.proofs.image.parts.Parts.window.Goals as goal

pub returns-then-count-rest-clause-bytes : goal.returns-then-count-rest-clause-bytes
returns-then-count-rest-clause-bytes c =
    rest_short (runs_of_parts c.args.self.now) c.args.address c.rest_from-rest.result.now c.args.count
    c.rest_from-rest.ensures c.if-count-rest.true

pub returns-clause-bytes : goal.returns-clause-bytes
returns-clause-bytes c =
    rest_present (runs_of_parts c.args.self.now) c.args.address c.rest_from-rest.result.now c.args.count
    c.rest_from-rest.ensures c.if-count-rest.false
