use Rattle.std.proofs.Common.{◌∙◌}
use Rattle.std.proofs.lemmas.Result.{IfOk-weaker}
use Rattle.acpi_base.proofs.Texts.Judging.{whole_stopped}
use Rattle.acpi_base.proofs.Texts.PlacedData.{whole_text, whole_memory}
use Rattle.acpi_base.proofs.text.image_text.parse_image.Goals as goal

pub returns-in-Err-clause-err : goal.returns-in-Err-clause-err
returns-in-Err-clause-err c =
    whole_stopped c.args.text.now _ _ _ c.new-buffer.ensures.state c.first_fault.ensures c.in-Err.ensures.err

pub returns-in-Ok-clause-ok : goal.returns-in-Ok-clause-ok
returns-in-Ok-clause-ok c =
    let read = c.in-Ok.ensures.whole c.new-buffer.ensures.line in
    let same = whole_text _ _ c.args.text.now c.in-Ok.last.now c.new-buffer.ensures.parser read.0 read.1 in
    IfOk-weaker c.finish_with.result _ _ (λ image is. (is.0, same ∙ is.1, is.2)) c.finish_with.ensures.ok

pub returns-in-Ok-clause-memory : goal.returns-in-Ok-clause-memory
returns-in-Ok-clause-memory c =
    let read = c.in-Ok.ensures.whole c.new-buffer.ensures.line in
    whole_memory _ _ c.args.text.now c.in-Ok.last.now c.finish_with.result c.new-buffer.ensures.parser read.0 read.1
    c.finish_with.ensures.memory
