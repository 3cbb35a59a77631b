use Rattle.std.proofs.Common.{◌≡◌, ◌+◌, ◌*◌, map}
use Rattle.std.specs.List.{range_with_len}
use Rattle.acpi_base.specs.Number.{field}
use Rattle.acpi_lint.proofs.root_advice.rising_slots.Given as goal

-- those in the slots before this one
abbrev pub invariant-loop-slot : goal.invariant-loop-slot
invariant-loop-slot l =
    l.found.items ≡ map (λ k. field l.bytes (36 + l.width * k) l.width) (range_with_len 0 l.slot)
