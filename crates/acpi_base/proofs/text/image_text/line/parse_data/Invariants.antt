use Rattle.std.proofs.Common.{◌≡◌, length, [], vec_items}
use Rattle.std.specs.Prelude.{None}
use Rattle.acpi_base.specs.Text.ImageText.{data_from}
use Rattle.acpi_base.proofs.text.image_text.line.parse_data.Given as goal

-- the line continues so from the bytes so far
abbrev pub invariant-loop-first : goal.invariant-loop-first
invariant-loop-first l = data_from (vec_items l.bytes) None l.rest ≡ data_from [] None l.line

abbrev pub decreases-loop-first : goal.decreases-loop-first
decreases-loop-first l = length l.rest
