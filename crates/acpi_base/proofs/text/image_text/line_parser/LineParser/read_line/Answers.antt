use Rattle.std.proofs.Common.{◌≡◌, ◌+◌, length, ap, refl, ◌∙◌, arith, false}
use Rattle.std.proofs.lemmas.Bool.Decides.{nat_tests}
use Rattle.acpi_base.specs.Text.ImageText.{is_too_long}
use Rattle.acpi_base.specs.Text.Lines.{line_with}
use Rattle.acpi_base.proofs.Texts.PlacedData.{placed_line, placed_result, form_has, data_has}
use Rattle.acpi_base.proofs.text.image_text.line_parser.LineParser.read_line.Goals as goal

pub returns-in-Ok-clause-memory : goal.returns-in-Ok-clause-memory
returns-in-Ok-clause-memory c =
    let p = c.args.self.now in
    let line = c.args.line.now in
    let line_fits = c.if-line-gt-MAX_LINE.false in
    let text_fits = c.if-through.false in
    let short : is_too_long (length line) (p.through + length line + c.args.ending) ≡ false =
    grind (arith, nat_tests) in
    placed_result p p.image c.take_line.new.self.image line c.args.ending c.take_line.result short
    c.take_line.ensures.same
    (form_has p.next line _ c.in-Ok.form c.take_line.result
    (ap (line_with c.in-Ok.form) c.deref.ensures.value ∙ c.in-Ok.ensures.ok) c.take_line.ensures.memory)

pub returns-in-Err-clause-memory : goal.returns-in-Err-clause-memory
returns-in-Err-clause-memory c =
    let p = c.args.self.now in
    let line = c.args.line.now in
    let line_fits = c.if-line-gt-MAX_LINE.false in
    let text_fits = c.if-through.false in
    let short : is_too_long (length line) (p.through + length line + c.args.ending) ≡ false =
    grind (arith, nat_tests) in
    placed_line p p.image p.image line c.args.ending c.memory_fault.result short refl
    (λ memory. data_has p.next line c.in-Err.error.count c.in-Err.ensures.err (c.memory_fault.ensures.memory memory))
