use Rattle.acpi_lint.proofs.CollectedNumbers.{each_ok}
use Rattle.acpi_lint.proofs.by_hand.add_of_memory.Goals as goal

pub returns : goal.returns
returns c =
    each_ok c.add-4.result
    (λ _ last. λ q is. λ done before.
    let m = c.args.image.now in
    last m q (rw is c.rsdp_text.ensures) _
    (c.in_ok-add-3.ensures.adds m q (rw is c.rsdp_reserved.ensures) _
    (c.in_ok-add-2.ensures.adds m q (rw is c.in_ok-overlaps.ensures) _
    (c.in_ok-add.ensures.adds m q (rw is c.in_ok-differs.ensures) _ before))))
    c.add-4.ensures.adds
