use Rattle.std.proofs.Common.{◌≡◌, ℕ, ◌<◌, get_or, None}
use Rattle.acpi_lint.specs.Slots.{second_place}
use Rattle.acpi_lint.proofs.ListedSlots.{no_slot}
use Rattle.acpi_lint.proofs.slot_advice.second_table.Given as goal

-- no slot before this one is a second one
abbrev pub invariant-loop-slot : goal.invariant-loop-slot
invariant-loop-slot l = (j : ℕ) → j < l.slot-index
    → second_place l.tables.firsts (get_or l.tables.slots.items j no_slot) ≡ None
