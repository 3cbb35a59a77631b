use Rattle.acpi_rules.specs.declared.overlap.Range.TheVariants as range
use Rattle.acpi_rules.proofs.OverlappingNumbers.{overlap_as}
use Rattle.acpi_lint.proofs.CollectedNumbers.{each_ok}
use Rattle.acpi_lint.proofs.structures.tables_overlap.Goals as goal

pub returns : goal.returns
returns c =
    each_ok c.first_overlap.result
    (λ found least. overlap_as range.Count found c.in_ok-given.ensures least) c.first_overlap.ensures.found
