use Rattle.std.proofs.Common.{◌-◌}
use Rattle.acpi_base.specs.Image.Pieces.{run_in}
use Rattle.acpi_base.specs.Image.Segments.{runs_of}
use Rattle.acpi_base.proofs.Images.Rests.{no_rest, rest_in, rest_of_run}
use Rattle.acpi_base.proofs.image.segments.Segments.span_from.Goals as goal

pub returns-in_default-clause-rest : goal.returns-in_default-clause-rest
returns-in_default-clause-rest c = no_rest (runs_of c.args.self.now) c.args.address c.in_default.ensures.reached

pub returns-clause-rest : goal.returns-clause-rest
returns-clause-rest c =
    let s = c.args.self.now in
    let base = c.in-Some.base in
    let span = c.in-Some.span in
    rest_of_run (runs_of s) c.args.address (run_in s.store (base, span)) _ c.in-Some.ensures.reached
    (rest_in s.store span.start span.len (c.args.address - base) _ c.in-Some.ensures.lies c.min-skipped.ensures)
