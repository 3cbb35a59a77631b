use Rattle.acpi_base.specs.Image.Segments.{runs_of}
use Rattle.acpi_base.proofs.Images.Rests.{part_present, part_short}
use Rattle.acpi_base.proofs.image.segments.Segments.window_span.Goals as goal

pub returns-then-count-span-clause-bytes : goal.returns-then-count-span-clause-bytes
returns-then-count-span-clause-bytes c =
    let s = c.args.self.now in
    let span = c.span_from-span.result in
    part_short (runs_of s) c.args.address s.store span.start span.len c.span_from-span.ensures.lies
    c.span_from-span.ensures.rest c.args.count c.if-count-span.true

pub returns-clause-bytes : goal.returns-clause-bytes
returns-clause-bytes c =
    let s = c.args.self.now in
    let span = c.span_from-span.result in
    part_present (runs_of s) c.args.address s.store span.start span.len c.span_from-span.ensures.lies
    c.span_from-span.ensures.rest c.args.count c.if-count-span.false
