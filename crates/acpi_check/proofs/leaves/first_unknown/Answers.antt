use Rattle.std.specs.Prelude.{Contains}
use Rattle.acpi_base.specs.declared.code.Code.TheVariants as code
use Rattle.acpi_check.specs.Processors.{leaf_id}
use Rattle.acpi_check.specs.NamedNumbers.{IsKnown}
use Rattle.acpi_check.proofs.EntryPasses.Kept.{pptt_rising}
use Rattle.acpi_check.proofs.EntryPasses.Passes.{none_passed, past}
use Rattle.acpi_check.proofs.ProcessorNumbers.NamedPass.{stops, ends}
use Rattle.acpi_check.proofs.leaves.first_unknown.Goals as goal

pub loop-at-init : goal.loop-at-init
loop-at-init c =
    rw c.entries-entries.ensures.entries
    (none_passed 36 (λ o e. IsKnown (Contains c.args.uids.now) (leaf_id e)) (pptt_rising c.args.pptt.now))

pub returns-in-Some-own_fault : goal.returns-in-Some-own_fault
returns-in-Some-own_fault c =
    stops (Contains c.args.uids.now) leaf_id (rw c.in-Some.ensures.steps.0 at c.loop-at.invariant) code.LeafUnknown
    c.in-Some-own_fault.fault c.in-Some-own_fault.ensures

pub loop-at-preserved : goal.loop-at-preserved
loop-at-preserved c = past (rw c.in-Some.ensures.steps.0 at c.loop-at.invariant) c.in_default-own_fault.ensures

pub returns : goal.returns
returns c = ends (Contains c.args.uids.now) leaf_id (rw c.in_default.ensures.steps.0 at c.loop-at.invariant)
