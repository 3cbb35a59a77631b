use Rattle.std.proofs.Common.{◌≡◌, ◌++◌, drop, map}
use Rattle.acpi_lint.specs.Rules.Hierarchy.{by_place}
use Rattle.acpi_lint.proofs.packages.push_by_places.Given as goal

-- those so far, and those still to come
abbrev pub invariant-loop-one : goal.invariant-loop-one
invariant-loop-one l =
    l.all.items ++ map by_place (drop l.one-index l.given) ≡ l.initial.all.items ++ map by_place l.given
