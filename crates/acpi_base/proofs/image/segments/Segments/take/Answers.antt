use Rattle.std.proofs.Common.{sym, ap, ◌∙◌, arith}
use Rattle.acpi_base.specs.Memory.{with_bytes}
use Rattle.acpi_base.specs.Image.Segments.{memory_in}
use Rattle.acpi_base.proofs.Images.SegmentOrder.{more_laid, more_present}
use Rattle.acpi_base.proofs.image.segments.Segments.take.Goals as goal

pub returns-clause-valid : goal.returns-clause-valid
returns-clause-valid c =
    let at = c.in_ok-begin.ensures.at in
    let fits = c.requires.fits in
    more_laid _ _ c.args.bytes.now _ _ _ c.in_ok-extend.ensures.ok (omega arith)
    (λ k. omega (arith, c.type_inv.bytes k)) c.in_ok-begin.ensures.valid

pub returns-clause-ok : goal.returns-clause-ok
returns-clause-ok c =
    let s = c.begin.new.self in
    more_present s.store _ c.args.bytes.now s.ended.items s.base s.start c.in_ok-extend.ensures.ok
    c.in_ok-begin.ensures.valid.within c.in_ok-begin.ensures.valid.lies
    ∙ ap (λ a. with_bytes (memory_in s) a c.args.bytes.now) (sym c.in_ok-begin.ensures.at)
    ∙ ap (λ m. with_bytes m c.args.base c.args.bytes.now) c.in_ok-begin.ensures.same
