use Rattle.std.proofs.Common.{◌≡◌, ◌++◌, length, take, drop, None, ◌∙◌, ap, rules}
use Rattle.std.proofs.Math.Seq.{take-append_seam}
use Rattle.std.proofs.lemmas.List.{length-replicate}
use Rattle.acpi_check.specs.Processors.{PutsPlaced}
use Rattle.acpi_check.proofs.EntryPasses.Kept.{srat_rising}
use Rattle.acpi_check.proofs.EntryPasses.ValuesPass.{at_first, at_next, stops, ends}
use Rattle.acpi_check.proofs.ProcessorNumbers.DomainsPass.{one_place}
use Rattle.acpi_check.proofs.domains.first_other_domain.Goals as goal

pub loop-at-init : goal.loop-at-init
loop-at-init c =
    let none = c.in_ok-firsts.ensures.items_if_clones_equal (λ y same. search rules) in
    rw (none, c.entries-entries.ensures.entries) (
      at_first (PutsPlaced c.args.numbers.now) 48 (length c.args.numbers.now)
          (srat_rising c.args.srat.now),
      length-replicate (length c.args.numbers.now) None,
    )

pub loop-at-preserved : goal.loop-at-preserved
loop-at-preserved c =
    let now = c.pass_given.new.firsts in
    let old = c.loop-at.firsts.items in
    let same : length now ≡ length old = c.pass_given.auto.firsts ∙ ap length c.deref_mut.ensures.value in
    let next = at_next old now (one_place c.args.numbers.now c.requires)
    (rw c.in-Some.ensures.steps.0 at c.loop-at.invariant.0)
    c.domain_given-given.result c.domain_given-given.ensures.given
    (rw c.deref_mut.ensures.value at c.in_default-pass_given.ensures) in
    let back : take c.loop-at.firsts.len (now ++ drop (length now) old) ≡ now = rw (c.loop-at.firsts.ok.0, ← same)
    (take-append_seam now (drop (length now) old)) in
    rw back (next, same ∙ c.loop-at.invariant.1)

pub returns-in-Some-pass_given-clause-found : goal.returns-in-Some-pass_given-clause-found
returns-in-Some-pass_given-clause-found c =
    stops c.loop-at.firsts.items c.pass_given.new.firsts (one_place c.args.numbers.now c.requires)
    (rw c.in-Some.ensures.steps.0 at c.loop-at.invariant.0)
    c.domain_given-given.result c.domain_given-given.ensures.given _
    (rw c.deref_mut.ensures.value at c.in-Some-pass_given.ensures)

pub returns-clause-found : goal.returns-clause-found
returns-clause-found c = ends c.loop-at.firsts.items (rw c.in_default.ensures.steps.0 at c.loop-at.invariant.0)
