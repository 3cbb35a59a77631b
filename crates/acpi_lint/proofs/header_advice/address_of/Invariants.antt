use Rattle.std.proofs.Common.{◌≢◌, ℕ, ◌<◌, get_or}
use Rattle.acpi_lint.proofs.ListedSlots.{no_slot}
use Rattle.acpi_lint.proofs.header_advice.address_of.Given as goal

-- no slot before this one has the number
abbrev pub invariant-loop-slot : goal.invariant-loop-slot
invariant-loop-slot l = (j : ℕ) → j < l.slot-index → (get_or l.slots j no_slot).number ≢ l.number
