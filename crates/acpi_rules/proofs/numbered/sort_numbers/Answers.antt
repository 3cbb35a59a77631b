use Rattle.acpi_rules.proofs.SortedNumbers.{in_order_ok}
use Rattle.acpi_rules.proofs.numbered.sort_numbers.Goals as goal

pub returns-clause-sorted : goal.returns-clause-sorted
returns-clause-sorted c = in_order_ok c.sort_unless_sorted.result _ c.sort_unless_sorted.ensures.sorted
