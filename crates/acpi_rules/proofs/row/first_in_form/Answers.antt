use Rattle.acpi_rules.proofs.FormFindings.{each_ok, repeated_as}
use Rattle.acpi_rules.proofs.OverlappingNumbers.{overlap_as}
use Rattle.acpi_rules.proofs.row.first_in_form.Goals as goal

pub returns-in-Given-clause-found : goal.returns-in-Given-clause-found
returns-in-Given-clause-found c = rw c.in-Given.is c.first_given.ensures.found

pub returns-in_ok-counted-in-Repeated-clause-found : goal.returns-in_ok-counted-in-Repeated-clause-found
returns-in_ok-counted-in-Repeated-clause-found c =
    rw c.in-Repeated.is
    (each_ok c.first_repeated.result
    (λ found least. repeated_as c.in-Repeated.repeat found
    c.in_ok-counted-in-Repeated.ensures least)
    c.first_repeated.ensures.found)

pub returns-in_ok-counted-in-Overlap-clause-found : goal.returns-in_ok-counted-in-Overlap-clause-found
returns-in_ok-counted-in-Overlap-clause-found c =
    rw c.in-Overlap.is
    (each_ok c.first_overlap.result
    (λ found least. overlap_as c.in-Overlap.range found
    c.in_ok-counted-in-Overlap.ensures least)
    c.first_overlap.ensures.found)
