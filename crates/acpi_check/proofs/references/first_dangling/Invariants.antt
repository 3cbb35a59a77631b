use Rattle.std.proofs.Common.{ℕ, ◌*◌, ◌<◌}
use Rattle.acpi_base.specs.Number.{field}
use Rattle.acpi_check.specs.BitSets.{IsIn}
use Rattle.acpi_check.proofs.references.first_dangling.Given as goal

-- the private resources so far are at these offsets
abbrev pub invariant-loop-j : goal.invariant-loop-j
invariant-loop-j l = (i : ℕ) → i < l.j → IsIn l.fn.offsets (field l.fn.references (4 * i) 4)
