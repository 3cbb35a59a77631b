use Rattle.std.proofs.Common.{◌∙◌, sym, arith}
use Rattle.acpi_base.specs.Srat.{srat_contents}
use Rattle.acpi_check.proofs.EntryPasses.RisingKeys.{begins, with_one, without, ends}
use Rattle.acpi_check.proofs.ProcessorNumbers.DomainsPass.{one_put, put_alone, none_put}
use Rattle.acpi_check.proofs.domains.do_processors_rise.Goals as goal

pub loop-at-init : goal.loop-at-init
loop-at-init c = rw c.entries-entries.ensures.entries (begins (srat_contents c.args.srat.now).entries)

pub loop-at-preserved-in-Some-placement_of : goal.loop-at-preserved-in-Some-placement_of
loop-at-preserved-in-Some-placement_of c =
    rw c.from-processor.ensures
    (with_one c.in-Some-placement_of.put.processor (rw c.in-Some.ensures.steps.0 at c.loop-at.invariant)
    (omega (arith, c.if-processor-least.false, c.from-processor.ensures))
    (put_alone _ c.in-Some-placement_of.put (sym c.placement_of.ensures ∙ c.in-Some-placement_of.is)))

pub loop-at-preserved : goal.loop-at-preserved
loop-at-preserved c =
    without (rw c.in-Some.ensures.steps.0 at c.loop-at.invariant)
    (none_put _ (sym c.placement_of.ensures ∙ c.in_default-placement_of.is))

pub returns : goal.returns
returns c = λ rise. ends one_put (rw c.in_default.ensures.steps.0 at c.loop-at.invariant)
