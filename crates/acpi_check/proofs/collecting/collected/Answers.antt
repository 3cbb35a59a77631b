use Rattle.std.proofs.Common.{refl}
use Rattle.acpi_check.proofs.EntryPasses.Collecting.{one_kept, one_passed, all_collected}
use Rattle.acpi_check.proofs.collecting.collected.Goals as goal

pub loop-entry-preserved-in-Continue-1 : goal.loop-entry-preserved-in-Continue-1
loop-entry-preserved-in-Continue-1 g c =
    rw c.in_ok-push.ensures.items
    (one_kept (rw c.in-Some.ensures.steps.0 at c.loop-entry.invariant) (_, refl, c.in-Some-pick.ensures))

pub loop-entry-preserved : goal.loop-entry-preserved
loop-entry-preserved g c =
    one_passed (rw c.in-Some.ensures.steps.0 at c.loop-entry.invariant) (_, refl, c.in_default.ensures)

pub returns : goal.returns
returns g c = all_collected c.loop-entry.invariant c.in-None.ensures.steps.0
