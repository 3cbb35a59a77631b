use Rattle.std.proofs.Common.{ℕ, ◌<◌}
use Rattle.acpi_base.specs.Root.{HasSlot}
use Rattle.acpi_base.specs.Tables.{IsSigned}
use Rattle.acpi_read.proofs.listed.first.Given as goal

-- no table before slot k has the signature
abbrev pub invariant-loop-k : goal.invariant-loop-k
invariant-loop-k l = (j b : ℕ) → j < l.k → HasSlot l.root.bytes l.root.width j b → ¬ IsSigned l.image b l.signature
