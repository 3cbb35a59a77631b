use Rattle.acpi_lint.proofs.CollectedNumbers.{each_ok}
use Rattle.acpi_lint.proofs.by_hand.add_of_slots.Goals as goal

pub returns : goal.returns
returns c =
    each_ok c.add-7.result
    (λ _ last. λ m q are. λ done before.
    let twice = rw c.in_ok-listed_twice.was at (c.listed_twice.ensures m q.rsdp are) in
    let other = rw c.in_ok-second_other.was at (c.second_other.ensures m q.rsdp are) in
    last m q other _
    (c.in_ok-add-6.ensures.adds m q (c.header_text.ensures m q.rsdp are) _
    (c.in_ok-add-5.ensures.adds m q (c.root_header.ensures m q.rsdp are) _
    (c.in_ok-add-4.ensures.adds m q (c.null_slot.ensures m q.rsdp are) _
    (c.in_ok-add-3.ensures.adds m q (c.listed_apart.ensures m q.rsdp are) _
    (c.in_ok-add-2.ensures.adds m q (c.second_table.ensures m q.rsdp are) _
    (c.in_ok-add.ensures.adds m q twice _ before)))))))
    c.add-7.ensures.adds
