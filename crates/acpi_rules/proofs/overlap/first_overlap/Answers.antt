use Rattle.std.proofs.lemmas.List.Sorted.{Contains-permutation, IsPermutation-sym}
use Rattle.acpi_rules.proofs.OverlappingNumbers.{overlap_as}
use Rattle.acpi_rules.proofs.overlap.first_overlap.Goals as goal

pub returns-clause-found : goal.returns-clause-found
returns-clause-found c =
    let given = c.args.given.items in
    let sorted = c.sort_numbers.new.given.items in
    let moved = c.sort_numbers.ensures.permutation in
    overlap_as c.args.range c.first_in_order.result
    (λ n. (
      Contains-permutation sorted given n (IsPermutation-sym given sorted moved),
      Contains-permutation given sorted n moved,
    ))
    ((rw c.deref.ensures.value at c.first_in_order.ensures) c.in_ok-sort_numbers.ensures.sorted)
