use Rattle.std.proofs.Common.{◌≡◌, ◌++◌}
use Rattle.acpi_rules.proofs.ToldNumbers.{AreBeside}
use Rattle.acpi_rules.proofs.passes.all_given.Given as goal

-- those so far at other places, which with those that are left are all
abbrev pub invariant-loop-given : goal.invariant-loop-given
invariant-loop-given l = record {
  all : l.yielded ++ l.given-iterator ≡ l.initial.given-iterator;
  beside : AreBeside l.except l.yielded l.all.items;
}
