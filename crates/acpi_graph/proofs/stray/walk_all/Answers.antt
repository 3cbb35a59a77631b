use Rattle.std.proofs.Common.{below_more, arith}
use Rattle.acpi_graph.proofs.Walks.{first_stray_found, fresh}
use Rattle.acpi_graph.proofs.stray.walk_all.Goals as goal

pub loop-start-init : goal.loop-start-init
loop-start-init c = (fresh c.args.parents.now c.args.marks.now c.requires.fresh, λ node below. absurd (omega arith))

pub loop-start-preserved : goal.loop-start-preserved
loop-start-preserved c =
    (c.walk.ensures.settled c.in-None.is, below_more _ _ c.loop-start.invariant.1 (c.walk.ensures.end c.in-None.is))

pub returns-in_default-clause-first : goal.returns-in_default-clause-first
returns-in_default-clause-first c =
    first_stray_found c.args.parents.now c.loop-start.start c.walk.result c.loop-start-test.true
    c.loop-start.invariant.1 c.walk.ensures.round
