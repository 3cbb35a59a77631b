use Rattle.std.proofs.Common.{ℕ, ◌<◌, ◌*◌, ◌≢◌, get_or}
use Rattle.acpi_base.proofs.text.image_text.byte_search.first_index.Given as goal

-- the byte was not passed
abbrev pub invariant-loop-block : goal.invariant-loop-block
invariant-loop-block l = (k : ℕ) → k < 64 * l.block → get_or l.text k 0 ≢ l.byte
