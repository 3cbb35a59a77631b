use Rattle.std.proofs.Common.{Some, sym, ap, ◌∙◌}
use Rattle.acpi_check.proofs.ProcessorNumbers.LeavesFaults.{has_uid}
use Rattle.acpi_check.proofs.ProcessorNumbers.NamedPass.{next_among, others_among}
use Rattle.acpi_check.proofs.leaves.pass_uid.Goals as goal

pub returns-then-own-uid-clause-found : goal.returns-then-own-uid-clause-found
returns-then-own-uid-clause-found c = λ _.
    let stands = next_among (rw c.in-Some.ensures.steps.0 at c.loop-at.invariant) in
    let is = sym c.number_of.ensures ∙ c.in-Some-number_of.is ∙ ap Some c.if-own-uid.true in
    (_, (_, stands, (has_uid c.args.uid _).1 is))

pub returns-then-own-uid-clause-among : goal.returns-then-own-uid-clause-among
returns-then-own-uid-clause-among c = others_among (rw c.in-Some.ensures.steps.0 at c.loop-at.invariant)

pub loop-at-preserved-else-own-uid : goal.loop-at-preserved-else-own-uid
loop-at-preserved-else-own-uid c = others_among (rw c.in-Some.ensures.steps.0 at c.loop-at.invariant)

pub loop-at-preserved : goal.loop-at-preserved
loop-at-preserved c = others_among (rw c.in-Some.ensures.steps.0 at c.loop-at.invariant)
