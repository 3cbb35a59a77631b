use Rattle.std.proofs.Common.{◌∙◌, None, Some, sym}
use Rattle.acpi_rules.proofs.FormFindings.{cut_is_least}
use Rattle.acpi_rules.proofs.row.cut_place.Goals as goal

pub returns-in_err-cut : goal.returns-in_err-cut
returns-in_err-cut c =
    rw c.from_residual.ensures
    (cut_is_least c.args.path.now c.args.table.now None (sym c.in_err-cut.was ∙ c.first_cut.ensures))

pub returns : goal.returns
returns c =
    cut_is_least c.args.path.now c.args.table.now (Some c.in_ok-cut.cut) (sym c.in_ok-cut.was ∙ c.first_cut.ensures)
