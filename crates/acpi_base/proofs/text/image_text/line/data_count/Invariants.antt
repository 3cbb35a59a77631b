use Rattle.std.proofs.Common.{◌≡◌, ◌+◌, ◌≤◌, ℕ, List, [], length}
use Rattle.std.specs.Prelude.{None}
use Rattle.acpi_base.specs.Text.ImageText.{data_from}
use Rattle.acpi_base.proofs.text.image_text.line.data_count.Given as goal

-- the line continues so from the bytes so far, of which there are so many
abbrev pub invariant-loop-first : goal.invariant-loop-first
invariant-loop-first l =
    (spelled : List ℕ) × (data_from spelled None l.rest ≡ data_from [] None l.line) × (length spelled ≡ l.count)
    × (l.count + length l.rest ≤ length l.line)

abbrev pub decreases-loop-first : goal.decreases-loop-first
decreases-loop-first l = length l.rest
