use Rattle.std.proofs.Common.{arith}
use Rattle.acpi_confirm.proofs.Walks.{is_there, passed_there}
use Rattle.acpi_confirm.proofs.entries.entry_at.Goals as goal

pub returns-then-start-at-clause-there : goal.returns-then-start-at-clause-there
returns-then-start-at-clause-there c = passed_there _ _ _ _ c.loop-start.invariant (omega arith)

pub returns-clause-there : goal.returns-clause-there
returns-clause-there c =
    is_there c.args.first c.loop-start.start c.args.whole.now c.args.at _ (omega arith) c.loop-start.invariant
    c.entry_from-2.ensures
