use Rattle.acpi_rules.proofs.FormFindings.{each_ok}
use Rattle.acpi_rules.proofs.OverlappingNumbers.{overlap_as}
use Rattle.acpi_rules.proofs.row.first_overlap_of.Goals as goal

pub returns : goal.returns
returns c =
    each_ok c.first_overlap.result
    (λ found least. overlap_as c.args.range found c.in_ok-given_by_any.ensures least)
    c.first_overlap.ensures.found
