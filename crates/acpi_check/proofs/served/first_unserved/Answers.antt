use Rattle.acpi_base.specs.declared.code.Code.TheVariants as code
use Rattle.acpi_check.specs.NamedNumbers.{IsKnown}
use Rattle.acpi_check.specs.ServedGsis.{named_gsi, IsInSpans}
use Rattle.acpi_check.proofs.EntryPasses.Kept.{madt_rising}
use Rattle.acpi_check.proofs.EntryPasses.Passes.{none_passed, past}
use Rattle.acpi_check.proofs.ProcessorNumbers.NamedPass.{stops, ends}
use Rattle.acpi_check.proofs.served.first_unserved.Goals as goal

pub loop-at-init : goal.loop-at-init
loop-at-init c =
    rw c.entries-entries.ensures.entries
    (none_passed 44 (λ o e. IsKnown (IsInSpans c.args.spans.now) (named_gsi e)) (madt_rising c.args.madt.now))

pub returns-in-Some-own_fault : goal.returns-in-Some-own_fault
returns-in-Some-own_fault c =
    stops (IsInSpans c.args.spans.now) named_gsi (rw c.in-Some.ensures.steps.0 at c.loop-at.invariant) code.GsiNowhere
    c.in-Some-own_fault.fault c.in-Some-own_fault.ensures

pub loop-at-preserved : goal.loop-at-preserved
loop-at-preserved c = past (rw c.in-Some.ensures.steps.0 at c.loop-at.invariant) c.in_default-own_fault.ensures

pub returns : goal.returns
returns c = ends (IsInSpans c.args.spans.now) named_gsi (rw c.in_default.ensures.steps.0 at c.loop-at.invariant)
