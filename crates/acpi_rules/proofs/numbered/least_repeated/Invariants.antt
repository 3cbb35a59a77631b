use Rattle.std.specs.Prelude.{AllPairs}
use Rattle.acpi_rules.specs.Numbered.{IsNotAbove}
use Rattle.acpi_rules.specs.Places.{FindsLeast}
use Rattle.acpi_rules.proofs.RepeatedNumbers.{IsStanding, IsRepeatedSoFar}
use Rattle.acpi_rules.proofs.numbered.least_repeated.Given as goal

abbrev pub invariant-loop-here : goal.invariant-loop-here
invariant-loop-here l =
    AllPairs IsNotAbove l.sorted → record {
      standing : IsStanding l.sorted l.here-index l.first;
      found : FindsLeast (IsRepeatedSoFar l.repeat l.sorted l.here-index) l.least;
    }
