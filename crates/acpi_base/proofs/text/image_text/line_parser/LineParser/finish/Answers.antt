use Rattle.std.proofs.Common.{refl, ◌∙◌}
use Rattle.std.proofs.lemmas.Result.{IfOk-weaker}
use Rattle.acpi_base.specs.Text.TextMemory.{IsPlacedData}
use Rattle.acpi_base.specs.Text.Lines.{judged, reading_with}
use Rattle.acpi_base.proofs.Texts.PlacedData.{ended_there}
use Rattle.acpi_base.proofs.text.image_text.line_parser.LineParser.finish.Goals as goal

pub returns-clause-ok : goal.returns-clause-ok
returns-clause-ok c =
    IfOk-weaker c.lay_out.result _ _
    (λ image is. (reading_with c.read_line.new.self image, c.in_default.ensures.ok ∙ is, refl))
    c.lay_out.ensures.ok

pub returns-clause-memory : goal.returns-clause-memory
returns-clause-memory c =
    ended_there (IsPlacedData (judged c.args.self) c.args.last.now 0) _ _ c.lay_out.result c.in_default.ensures.ok
    c.lay_out.ensures.memory
