use Rattle.acpi_base.specs.Madt.{Overrides}
use Rattle.acpi_check.proofs.EntryPasses.Kept.{madt_rising}
use Rattle.acpi_check.proofs.EntryPasses.OverridesPass.{one_source}
use Rattle.acpi_check.proofs.EntryPasses.ValuesPass.{at_first, at_next, stops, ends}
use Rattle.acpi_check.proofs.overrides.first_other_number.Goals as goal

pub loop-at-init : goal.loop-at-init
loop-at-init c = rw c.entries-entries.ensures.entries (at_first Overrides 44 256 (madt_rising c.args.madt.now))

pub loop-at-preserved : goal.loop-at-preserved
loop-at-preserved c =
    at_next c.loop-at.firsts c.pass_given.new.firsts one_source (rw c.in-Some.ensures.steps.0 at c.loop-at.invariant)
    c.number_given.result c.number_given.ensures.given c.in_default-pass_given.ensures

pub returns-in-Some-pass_given : goal.returns-in-Some-pass_given
returns-in-Some-pass_given c =
    stops c.loop-at.firsts c.pass_given.new.firsts one_source (rw c.in-Some.ensures.steps.0 at c.loop-at.invariant)
    c.number_given.result c.number_given.ensures.given c.in-Some-pass_given.found c.in-Some-pass_given.ensures

pub returns : goal.returns
returns c = ends c.loop-at.firsts (rw c.in_default.ensures.steps.0 at c.loop-at.invariant)
