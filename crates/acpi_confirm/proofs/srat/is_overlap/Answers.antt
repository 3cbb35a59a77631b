use Rattle.std.proofs.Common.{rules, tests}
use Rattle.acpi_base.specs.Srat.{srat_contents}
use Rattle.acpi_confirm.specs.Srats.{AreCompared}
use Rattle.acpi_confirm.proofs.SratFaults.{overlap}
use Rattle.acpi_confirm.proofs.EntriesAt.{test_of_two}
use Rattle.acpi_confirm.proofs.srat.is_overlap.Goals as goal

pub returns-then-at-other : goal.returns-then-at-other
returns-then-at-other c =
    let both = test_of_two _ _ (AreCompared c.args.hotplug) _ c.covering_at.result c.covering_at-then-at-other.result
    c.zip.result c.is_some_and.result c.covering_at.ensures c.covering_at-then-at-other.ensures c.zip.ensures
    c.is_some_and.ensures (λ pair says. search (rules, tests)) in
    let is = overlap c.args.hotplug (srat_contents c.args.srat.now) c.args.at c.args.other c.args.address
    c.if-at-other.true in
    (λ yes. is.0 (both.0 yes), λ clash. both.1 (is.1 clash))
