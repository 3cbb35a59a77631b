use Rattle.std.specs.Prelude.{AllPairs}
use Rattle.acpi_rules.specs.Numbered.{IsNotAbove}
use Rattle.acpi_rules.proofs.OverlappingNumbers.{IsHighest}
use Rattle.acpi_rules.proofs.overlap.first_in_order.Given as goal

abbrev pub invariant-loop-here : goal.invariant-loop-here
invariant-loop-here l =
    AllPairs IsNotAbove l.sorted → IsHighest l.range l.sorted l.here-index l.highest
