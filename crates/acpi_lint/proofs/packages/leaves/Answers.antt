use Rattle.std.proofs.Common.{[], ◌≡◌, ◌++◌, map, rules}
use Rattle.std.proofs.lemmas.List.{map-append}
use Rattle.acpi_lint.specs.Rules.Hierarchy.{by_place}
use Rattle.acpi_lint.proofs.LeafEntries.{leaves_said, placed_alike}
use Rattle.acpi_lint.proofs.packages.leaves.Goals as goal

pub returns-clause-placed : goal.returns-clause-placed
returns-clause-placed c =
    let marked = c.in_ok-given_by_row.field-0.items in
    let unmarked = c.in_ok-given_by_row-2.field-0.items in
    let all : c.push_by_places-2.new.all.items ≡ map by_place marked ++ map by_place unmarked = search rules in
    placed_alike (marked ++ unmarked) c.sort_numbers.new.given.items
    (rw (all, ← map-append by_place marked unmarked) at c.sort_numbers.ensures.permutation)

pub returns-clause-all : goal.returns-clause-all
returns-clause-all c = λ at id.
    let marked = c.in_ok-given_by_row.field-0.items in
    let unmarked = c.in_ok-given_by_row-2.field-0.items in
    let all : c.push_by_places-2.new.all.items ≡ map by_place marked ++ map by_place unmarked = search rules in
    let table : c.new.result.bytes.now ≡ c.args.pptt.now = search rules in
    let other : c.new-2.result.bytes.now ≡ [] = search rules in
    leaves_said c.args.pptt.now marked unmarked c.sort_numbers.new.given.items
    (rw (table, other) at c.in_ok-given_by_row.ensures) (rw (table, other) at c.in_ok-given_by_row-2.ensures)
    (rw (all) at c.sort_numbers.ensures.permutation) at id
