use Rattle.std.proofs.Common.{◌≡◌, ◌≤◌, length}
use Rattle.acpi_lint.specs.Slots.{AreSlots}
use Rattle.acpi_lint.proofs.ListedSlots.{ListsBefore}
use Rattle.acpi_lint.proofs.listed_slots.slots_of.Given as goal

-- these are the slots before this one, and at most as many; each remainder has an index
abbrev pub invariant-loop-slot : goal.invariant-loop-slot
invariant-loop-slot l =
    AreSlots l.image (ListsBefore l.root.bytes l.root.width l.slot) l.slots.items × (length l.slots.items ≤ l.slot)
    × (length l.last.items ≡ l.modulus)
