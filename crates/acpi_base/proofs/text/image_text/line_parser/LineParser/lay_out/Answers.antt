use Rattle.std.proofs.Common.{sym, ◌∙◌}
use Rattle.acpi_base.proofs.Texts.PlacedData.{laid_out}
use Rattle.acpi_base.proofs.text.image_text.line_parser.LineParser.lay_out.Goals as goal

pub returns-in-Err-clause-memory : goal.returns-in-Err-clause-memory
returns-in-Err-clause-memory c = λ memory.
    laid_out c.args.self c.args.self.image _ c.in-Err.fault c.in-Err.ensures.same (sym c.data_fault.ensures ∙ memory)
