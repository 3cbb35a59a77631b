use Rattle.acpi_lint.proofs.OddFields.{first_of_root}
use Rattle.acpi_lint.proofs.root_advice.odd_root.Goals as goal

pub returns : goal.returns
returns c =
    rw c.or.ensures
    (first_of_root c.args.whole.now c.other_revision.result c.odd_oem.result c.other_revision.ensures c.odd_oem.ensures)
