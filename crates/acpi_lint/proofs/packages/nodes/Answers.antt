use Rattle.std.proofs.Common.{[], ◌≡◌, ◌∙◌, IsPermutation, ap, map, rules}
use Rattle.std.proofs.lemmas.List.Sorted.{Contains-permutation, IsPermutation-sym}
use Rattle.acpi_lint.specs.Rules.Entries.{entries_give}
use Rattle.acpi_lint.specs.Rules.Hierarchy.{by_place, outer_nodes}
use Rattle.acpi_lint.specs.declared.rows.pptt.TheConstants.{OUTER_PARENTS}
use Rattle.acpi_lint.specs.declared.rows.pptt_fields.TheConstants.{PPTT_ENTRIES}
use Rattle.acpi_lint.proofs.packages.nodes.Goals as goal

pub returns-clause-same : goal.returns-clause-same
returns-clause-same c = λ g.
    let table : c.new.result.bytes.now ≡ c.args.pptt.now = search rules in
    let other : c.new-2.result.bytes.now ≡ [] = search rules in
    let parents : c.in_ok-parents.parents.items ≡ entries_give PPTT_ENTRIES OUTER_PARENTS c.args.pptt.now =
    rw (table, other) at c.in_ok-parents.ensures in
    let given : c.push_by_places.new.all.items ≡ map by_place c.in_ok-parents.parents.items = search rules in
    let all : c.push_by_places.new.all.items ≡ outer_nodes c.args.pptt.now = given ∙ ap (map by_place) parents in
    let moved : IsPermutation (outer_nodes c.args.pptt.now) c.sort_numbers.new.given.items =
    rw (all) at c.sort_numbers.ensures.permutation in (
      Contains-permutation c.sort_numbers.new.given.items (outer_nodes c.args.pptt.now) g
          (IsPermutation-sym (outer_nodes c.args.pptt.now) c.sort_numbers.new.given.items moved),
      Contains-permutation (outer_nodes c.args.pptt.now) c.sort_numbers.new.given.items g moved,
    )
