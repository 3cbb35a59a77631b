use Rattle.acpi_lint.proofs.OddFields.{first_odd}
use Rattle.acpi_lint.proofs.fadt_memory.odd_facs.Goals as goal

pub returns : goal.returns
returns c =
    rw (c.or-2.ensures, c.or-version.ensures, c.or.ensures, c.or-ospm.ensures)
    (first_odd c.args.bytes.now c.above-3.result c.above-2.result c.used-2.result c.above.result c.used.result
    c.above-3.ensures c.above-2.ensures c.used-2.ensures c.above.ensures c.used.ensures)
