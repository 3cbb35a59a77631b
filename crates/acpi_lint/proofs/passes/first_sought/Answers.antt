use Rattle.acpi_read.specs.EntryTables.{entry_table}
use Rattle.acpi_lint.proofs.EntryFaults.{none_sought}
use Rattle.acpi_lint.proofs.FirstEntries.{one_picked, none_picked, all_passed}
use Rattle.acpi_lint.proofs.passes.first_sought.Goals as goal

pub returns-in-Err : goal.returns-in-Err
returns-in-Err g c =
    let E = g.E.TableEntry in
    none_sought (entry_table E.first E.said_by (E.IsOwn c.args.policy.now) E.IsSingle) c.args.table.now c.args.sought
    (rw c.copied.ensures at c.in-Err.ensures.err.0)

pub loop-at-init : goal.loop-at-init
loop-at-init g c =
    rw (c.into_iter-at-iterator.ensures.into_iter_gives, c.from-entries.ensures, c.in-Ok.ensures.ok.1, c.copied.ensures)
    (record { listed = λ s here. here; others = λ found more. more })

pub returns-in-Some-sought_place : goal.returns-in-Some-sought_place
returns-in-Some-sought_place g c =
    one_picked (rw c.in-Some.ensures.steps.0 at c.loop-at.invariant) c.in-Some-sought_place.ensures

pub loop-at-preserved : goal.loop-at-preserved
loop-at-preserved g c =
    none_picked (rw c.in-Some.ensures.steps.0 at c.loop-at.invariant) c.in_default.ensures

pub returns : goal.returns
returns g c = all_passed c.loop-at.invariant c.in-None.ensures.steps.0
