use Rattle.std.proofs.Common.{ℕ, ◌<◌, get_or}
use Rattle.acpi_lint.specs.Slots.{HasSought}
use Rattle.acpi_lint.proofs.ListedSlots.{no_slot}
use Rattle.acpi_lint.proofs.listed_slots.first_slot.Given as goal

-- the slots before this one do not have what is looked for
abbrev pub invariant-loop-slot : goal.invariant-loop-slot
invariant-loop-slot l = (j : ℕ) → j < l.slot-index
    → ¬ HasSought l.sought (get_or l.slots j no_slot).table
