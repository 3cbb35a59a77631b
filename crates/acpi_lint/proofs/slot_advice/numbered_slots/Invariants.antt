use Rattle.std.proofs.Common.{◌≡◌, ◌++◌, drop, map}
use Rattle.acpi_lint.specs.Slots.{numbered_slot}
use Rattle.acpi_lint.proofs.slot_advice.numbered_slots.Given as goal

-- the addresses so far, and those still to come
abbrev pub invariant-loop-slot : goal.invariant-loop-slot
invariant-loop-slot l = l.given.items ++ map numbered_slot (drop l.slot-index l.slots) ≡ map numbered_slot l.slots
