use Rattle.std.proofs.Common.{arith, length, ◌<◌, ◌∙◌}
use Rattle.std.specs.Prelude.{true, false}
use Rattle.std.proofs.lemmas.List.{length-replicate, length-set}
use Rattle.acpi_check.proofs.EntryPasses.OverridesPass.{one_source}
use Rattle.acpi_check.proofs.EntryPasses.DifferentKeys.{begins, with_one, without, ends}
use Rattle.acpi_check.proofs.overrides.do_sources_differ.Goals as goal

pub loop-at-init : goal.loop-at-init
loop-at-init c = (length-replicate 256 false, rw c.entries-entries.ensures.entries (begins _ _))

pub loop-at-preserved-in-Some-number_given : goal.loop-at-preserved-in-Some-number_given
loop-at-preserved-in-Some-number_given c =
    let given = c.in-Some-number_given.field-0 in
    let count = c.loop-at.invariant.0 in
    let inside : given.key < length c.loop-at.seen =
    omega (arith, count, c.in-Some-number_given.ensures.inside) in (
      length-set c.loop-at.seen given.key true ∙ count,
      with_one given.key (rw c.in-Some.ensures.steps.0 at c.loop-at.invariant.1) inside c.if-seen-source.false
          (λ k d gives. (one_source _ k given.key d given.value gives c.in-Some-number_given.ensures.given).0),
    )

pub loop-at-preserved : goal.loop-at-preserved
loop-at-preserved c = (
  c.loop-at.invariant.0,
  without (rw c.in-Some.ensures.steps.0 at c.loop-at.invariant.1) c.in_default-number_given.ensures.given,
)

pub returns : goal.returns
returns c = λ differ. ends one_source (rw c.in_default.ensures.steps.0 at c.loop-at.invariant.1)
