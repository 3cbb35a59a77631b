use Rattle.std.proofs.Common.{◌≡◌, ◌++◌}
use Rattle.acpi_rules.specs.Known.{told}
use Rattle.acpi_rules.specs.Places.{FindsLeast}
use Rattle.acpi_rules.proofs.ToldNumbers.{IsToldAmong}
use Rattle.acpi_rules.proofs.passes.first_told.Given as goal

-- the lowest place of those so far, which with those that are left are all
abbrev pub invariant-loop-given : goal.invariant-loop-given
invariant-loop-given l = record {
  all : l.yielded ++ l.given-iterator ≡ l.initial.given-iterator;
  found : FindsLeast (IsToldAmong (told l.look_up l.except l.known) l.yielded) l.least;
}
