use Rattle.std.proofs.Common.{sym}
use Rattle.acpi_lint.proofs.ByHand.{nothing_yet}
use Rattle.acpi_lint.proofs.by_hand.found_by_hand.Goals as goal

pub returns : goal.returns
returns c =
    let m = c.args.image.now in
    let q = c.args.policy.now in
    c.in_ok-add_of_pptt.ensures.adds m q c.requires _
    (c.in_ok-add_of_slit.ensures.adds m q c.requires _
    (c.in_ok-add_of_madt.ensures.adds m q c.requires _
    (c.in_ok-add_of_fadt_madt.ensures.adds m c.requires _
    (c.in_ok-add_of_fadt.ensures.adds q c.requires _
    (c.in_ok-add_of_memory.ensures q (sym c.rsdp.ensures.value) _
    (c.in_ok-add_of_slots.ensures m q c.requires _
    (c.in_ok-add_of_spcr.ensures.adds m c.requires _
    (c.in_ok-add_of_gtdt.ensures.adds m q c.requires _
    (c.in_ok-add_of_hmat.ensures.adds m q c.requires _
    (c.in_ok-add_of_mcfg.ensures.adds m q c.requires _
    (nothing_yet m q c.new-found.result.items c.new-found.ensures.items)))))))))))
