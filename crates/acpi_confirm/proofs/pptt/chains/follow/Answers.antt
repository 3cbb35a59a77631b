use Rattle.acpi_confirm.proofs.Chains.{led_next}
use Rattle.acpi_confirm.proofs.pptt.chains.follow.Goals as goal

pub loop-left-preserved : goal.loop-left-preserved
loop-left-preserved c =
    let next = c.in_ok-here.ensures in (
      led_next _ c.args.from c.args.steps c.loop-left.here.at c.loop-left.left c.loop-left.here.names
          c.in_ok-here.here.at c.loop-left.invariant.0 c.loop-left-test.true c.loop-left.invariant.1 next.step,
      next.names,
    )
