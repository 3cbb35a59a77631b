use Rattle.acpi_lint.proofs.ByHand.{none_added, one_added}
use Rattle.acpi_lint.proofs.by_hand.add.Goals as goal

pub returns-in_ok-push-clause-adds : goal.returns-in_ok-push-clause-adds
returns-in_ok-push-clause-adds c = λ m q least.
    one_added m q c.args.rule c.in-Some.place c.args.found.now.items c.push.new.self.items
    (rw (← c.number.ensures) c.in_ok-push.ensures.items) (rw c.in-Some.is at least)

pub returns-in_default-clause-adds : goal.returns-in_default-clause-adds
returns-in_default-clause-adds c = λ m q least.
    none_added m q c.args.rule c.args.found.now.items (rw c.in_default.is at least)
