use Rattle.acpi_lint.proofs.OfTables.{are_whole}
use Rattle.acpi_lint.proofs.complete_tables.CompleteTables.of.Goals as goal

pub returns-clause-tables : goal.returns-clause-tables
returns-clause-tables c =
    let slots = c.in_ok-slots.ensures.found c.args.rsdp c.complete-root.ensures in
    let firsts = (rw c.deref.ensures.value at c.of-firsts.ensures) c.args.image.now c.args.rsdp slots in
    are_whole _ c.complete-root.ensures slots firsts (c.found.ensures c.args.rsdp firsts)
    (c.found-2.ensures c.args.rsdp firsts) (c.found-3.ensures c.args.rsdp firsts)
    (c.found-4.ensures c.args.rsdp firsts) (c.found-5.ensures c.args.rsdp firsts)
    (c.found_further.ensures c.args.rsdp firsts) (c.found_further-2.ensures c.args.rsdp firsts)
    (c.found_further-3.ensures c.args.rsdp firsts) (c.found_further-4.ensures c.args.rsdp firsts)
    (c.found_further-5.ensures c.args.rsdp firsts) (c.found_further-6.ensures c.args.rsdp firsts)
    (c.found_further-7.ensures c.args.rsdp firsts)
