use Rattle.std.proofs.Common.{inr, refl, ◌++◌, length, arith}
use Rattle.acpi_base.specs.Text.ImageText.{read_line}
use Rattle.acpi_base.specs.Text.LineBuffers.{byte_count}
use Rattle.acpi_base.specs.Text.Lines.{reading_with}
use Rattle.acpi_base.specs.declared.text.TextFault.TheVariants.{TooLong}
use Rattle.acpi_base.proofs.Texts.LineBuffers.{line_too_long, refuses_told, short_bounds}
use Rattle.acpi_base.proofs.text.image_text.line_buffer.LineBuffer.end_line.Goals as goal

pub returns-then-part-len-clause-err : goal.returns-then-part-len-clause-err
returns-then-part-len-clause-err c =
    let f = c.args.self.now in
    let line_fits = (short_bounds (length f.line.items) (byte_count f) c.requires.short).0 in
    let long = c.len.ensures in
    let far = c.if-part-len.true in
    refuses_told f.parser f.parser.image (λ r. read_line r (f.line.items ++ c.args.part.now) 1) TooLong
    (λ m. inr (line_too_long (reading_with f.parser m) f.line.items c.args.part.now 1 (omega arith), refl))
