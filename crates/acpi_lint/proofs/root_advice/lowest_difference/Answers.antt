use Rattle.acpi_lint.proofs.Differences.{lowest_sorted}
use Rattle.acpi_lint.proofs.root_advice.lowest_difference.Goals as goal

pub returns : goal.returns
returns c =
    rw (c.first_difference.ensures, c.deref.ensures.value, c.deref-2.ensures.value)
    (lowest_sorted c.args.ours.items c.args.theirs.items _ _ c.sort_unless_sorted.ensures.permutation
    c.sort_unless_sorted-2.ensures.permutation c.in_ok-sort_unless_sorted.ensures.sorted
    c.in_ok-sort_unless_sorted-2.ensures.sorted)
