use Rattle.acpi_rules.proofs.SortedNumbers.{found_moved}
use Rattle.acpi_rules.proofs.numbered.first_repeated.Goals as goal

pub returns-clause-found : goal.returns-clause-found
returns-clause-found c =
    found_moved c.args.repeat c.args.given.items c.sort_numbers.new.given.items c.least_repeated.result
    c.sort_numbers.ensures.permutation
    ((rw c.deref.ensures.value at c.least_repeated.ensures) c.in_ok-sort_numbers.ensures.sorted)
