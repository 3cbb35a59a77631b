use Rattle.std.proofs.Common.{eqb}
use Rattle.std.proofs.lemmas.List.Filters.{dedup_is}
use Rattle.acpi_check.proofs.ProcessorNumbers.Searches.{in_order}
use Rattle.acpi_check.proofs.search.sorted_unique.Goals as goal

pub returns-clause-rise : goal.returns-clause-rise
returns-clause-rise c =
    let sorted = c.sort_unless_sorted.new.items.items in
    (in_order c.args.numbers.items sorted c.dedup.new.self.items c.sort_unless_sorted.ensures.permutation
    c.in_ok-sort_unless_sorted.ensures.sorted (dedup_is eqb sorted c.dedup.new.self.items c.dedup.ensures.filtered)).0

pub returns-clause-same : goal.returns-clause-same
returns-clause-same c =
    let sorted = c.sort_unless_sorted.new.items.items in
    (in_order c.args.numbers.items sorted c.dedup.new.self.items c.sort_unless_sorted.ensures.permutation
    c.in_ok-sort_unless_sorted.ensures.sorted (dedup_is eqb sorted c.dedup.new.self.items c.dedup.ensures.filtered)).1
