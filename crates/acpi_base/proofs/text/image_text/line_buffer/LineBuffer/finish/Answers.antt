use Rattle.std.proofs.Common.{ap, sym, ◌∙◌}
use Rattle.std.proofs.lemmas.Result.{IfOk-weaker}
use Rattle.acpi_base.specs.Text.ImageText.{on_ok, read_line}
use Rattle.acpi_base.specs.Text.Lines.{judged}
use Rattle.acpi_base.proofs.Texts.LineBuffers.{ended}
use Rattle.acpi_base.proofs.text.image_text.line_buffer.LineBuffer.finish.Goals as goal

pub returns-clause-ok : goal.returns-clause-ok
returns-clause-ok c =
    let f = c.args.self in
    let read = ended (judged f.parser) f.line.items
    ∙ ap (λ line. on_ok (judged f.parser) (λ r. read_line r line 0)) (sym c.deref.ensures.value) in
    IfOk-weaker c.finish.result _ _ (λ image is. (is.0, read ∙ is.1, is.2)) c.finish.ensures.ok
