use Rattle.std.proofs.Common.{◌≡◌, ◌++◌, drop}
use Rattle.std.specs.List.{filter_map}
use Rattle.acpi_lint.specs.Headers.{once_numbered}
use Rattle.acpi_lint.proofs.header_advice.numbered_once.Given as goal

-- those so far, and those still to come
abbrev pub invariant-loop-slot : goal.invariant-loop-slot
invariant-loop-slot l =
    l.given.items ++ filter_map once_numbered (drop l.slot-index l.slots)
    ≡ filter_map once_numbered l.slots
