use Rattle.std.proofs.Common.{length}
use Rattle.acpi_base.proofs.Texts.Rows.{IsReadOn}
use Rattle.acpi_base.proofs.text.image_text.line_buffer.LineBuffer.end_lines.Given as goal

abbrev pub invariant-lines : goal.invariant-lines
invariant-lines l = IsReadOn l.initial.self l.piece l.self l.rest

abbrev pub decreases-lines : goal.decreases-lines
decreases-lines l = length l.rest
