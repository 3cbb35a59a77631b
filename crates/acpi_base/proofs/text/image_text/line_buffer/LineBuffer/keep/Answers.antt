use Rattle.std.proofs.Common.{inl, inr, ◌+◌, ◌∙◌, length, ap, sym, arith}
use Rattle.std.proofs.lemmas.Bool.{cases_lt}
use Rattle.acpi_base.specs.Text.ImageText.{max_line}
use Rattle.acpi_base.specs.Text.Lines.{judged}
use Rattle.acpi_base.specs.Text.LineBuffers.{state_with, byte_count}
use Rattle.acpi_base.proofs.Texts.LineBuffers.{kept, kept_refused, not_kept, short_bounds}
use Rattle.acpi_base.proofs.text.image_text.line_buffer.LineBuffer.keep.Goals as goal

pub returns-then-part-most-clause-err : goal.returns-then-part-most-clause-err
returns-then-part-most-clause-err c =
    let f = c.args.self.now in
    let bounds = short_bounds (length f.line.items) (byte_count f) c.requires.valid.short in
    let line_fits = bounds.0 in
    let text_fits = bounds.1 in
    let through = c.through.ensures in
    let most = c.min-most.ensures in
    let long = c.len.ensures in
    let far = c.if-part-most.true in
    inr (kept_refused f.parser f.line.items c.args.part.now c.requires.valid.short c.requires.free
    (elim (cases_lt max_line (length f.line.items + length c.args.part.now)) [
      | inl l ↦ inl l
      | inr l ↦ inr (omega arith)
    ])
    f.parser.image)

pub returns-clause-ok : goal.returns-clause-ok
returns-clause-ok c =
    let f = c.args.self.now in
    let bounds = short_bounds (length f.line.items) (byte_count f) c.requires.valid.short in
    let line_fits = bounds.0 in
    let text_fits = bounds.1 in
    let through = c.through.ensures in
    let most = c.min-most.ensures in
    let long = c.len.ensures in
    let near = c.if-part-most.false in
    kept f.parser f.line.items c.args.part.now c.requires.valid.short c.requires.free (omega arith)
    (omega arith) f.parser.image
    ∙ ap (state_with (judged f.parser)) (sym c.in_ok-extend_from_slice.ensures.items)

pub returns-in_err-extend_from_slice-clause-err : goal.returns-in_err-extend_from_slice-clause-err
returns-in_err-extend_from_slice-clause-err c =
    let f = c.args.self.now in
    not_kept f.parser f.line.items c.args.part.now f.parser.image c.from_residual.result
    c.from_residual.ensures.1
