use Rattle.acpi_lint.proofs.OddFields.{first_oem}
use Rattle.acpi_lint.proofs.header_advice.odd_oem.Goals as goal

pub returns : goal.returns
returns c =
    rw (c.or.ensures, c.or-later.ensures)
    (first_oem c.args.header.now c.odd_number-3.result c.odd_number.result c.odd_number-2.result c.odd_number-3.ensures
    c.odd_number.ensures c.odd_number-2.ensures)
