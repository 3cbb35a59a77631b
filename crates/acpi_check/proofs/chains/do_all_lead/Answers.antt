use Rattle.std.proofs.Common.{sym, ◌∙◌, subst}
use Rattle.std.proofs.lemmas.Option.{same_Some, none-some}
use Rattle.acpi_base.specs.Pptt.{pptt_contents}
use Rattle.acpi_check.specs.Chains.{Leads}
use Rattle.acpi_check.proofs.EntryPasses.Kept.{pptt_rising}
use Rattle.acpi_check.proofs.EntryPasses.Passes.{none_passed, past}
use Rattle.acpi_check.proofs.NodeLinks.OneWay.{IsOneWay, no_cycle}
use Rattle.acpi_check.proofs.chains.do_all_lead.Goals as goal

pub loop-at-init : goal.loop-at-init
loop-at-init c =
    rw c.entries-entries.ensures.entries
    (none_passed 36 (IsOneWay c.args.chain c.args.up) (pptt_rising c.args.pptt.now))

pub loop-at-preserved-else-not-does_lead : goal.loop-at-preserved-else-not-does_lead
loop-at-preserved-else-not-does_lead c =
    past (rw c.in-Some.ensures.steps.0 at c.loop-at.invariant) (λ p is some.
    let same = same_Some c.in-Some-named_offset.named p
    (sym c.in-Some-named_offset.is ∙ c.named_offset.ensures ∙ is) in
    subst (Leads c.args.up c.in-Some.at.offset) same
    (c.does_lead.ensures c.if-not-does_lead.false (λ none. some (sym same ∙ none))))

pub loop-at-preserved : goal.loop-at-preserved
loop-at-preserved c =
    past (rw c.in-Some.ensures.steps.0 at c.loop-at.invariant)
    (λ p is some. absurd (none-some p (sym c.in_default-named_offset.is ∙ c.named_offset.ensures ∙ is)))

pub returns : goal.returns
returns c = λ yes.
    no_cycle c.args.chain c.args.up (pptt_contents c.args.pptt.now)
    (rw c.in_default.ensures.steps.0 at c.loop-at.invariant) _
