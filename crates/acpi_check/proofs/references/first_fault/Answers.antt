use Rattle.acpi_base.specs.Pptt.{pptt_contents}
use Rattle.acpi_check.specs.EntryPlaces.{NamesPlaces}
use Rattle.acpi_check.proofs.EntryPasses.Kept.{pptt_rising}
use Rattle.acpi_check.proofs.EntryPasses.Passes.{none_passed, past}
use Rattle.acpi_check.proofs.NodeLinks.ReferencePass.{stops, ends_valid}
use Rattle.acpi_check.proofs.references.first_fault.Goals as goal

pub loop-at-init : goal.loop-at-init
loop-at-init c =
    rw c.entries-entries.ensures.entries
    (none_passed 36 (λ o e. NamesPlaces c.args.places.now e) (pptt_rising c.args.pptt.now))

pub returns-in-Some-own_fault : goal.returns-in-Some-own_fault
returns-in-Some-own_fault c =
    let first = c.in-Some-own_fault.ensures in
    stops c.args.places.now (pptt_contents c.args.pptt.now) c.requires _ _
    (rw c.in-Some.ensures.steps.0 at c.loop-at.invariant) c.in-Some-own_fault.fault first.0 first.1

pub loop-at-preserved : goal.loop-at-preserved
loop-at-preserved c = past (rw c.in-Some.ensures.steps.0 at c.loop-at.invariant) c.in_default-own_fault.ensures

pub returns : goal.returns
returns c = ends_valid c.args.places.now (pptt_contents c.args.pptt.now) c.requires
    (rw c.in_default.ensures.steps.0 at c.loop-at.invariant)
