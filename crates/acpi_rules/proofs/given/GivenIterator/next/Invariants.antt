use Rattle.std.proofs.Common.{◌≡◌, ◌++◌, length, map}
use Rattle.acpi_rules.specs.Cases.{case_value}
use Rattle.acpi_rules.specs.Given.{given_in_types, given_walked}
use Rattle.acpi_rules.specs.Terms.{tables_value}
use Rattle.acpi_rules.proofs.given.GivenIterator.next.Given as goal

-- those before give none
abbrev pub invariant-loop-found : goal.invariant-loop-found
invariant-loop-found l =
    let s = l.self-inside in
    let t = tables_value s.tables in
    let cases = map case_value s.cases.now in
    s.by_type ++ given_in_types t cases s.types.now ++ given_walked t cases s.walked ≡ l.fn.self

abbrev pub decreases-loop-found : goal.decreases-loop-found
decreases-loop-found l = length l.self-inside.types.now
