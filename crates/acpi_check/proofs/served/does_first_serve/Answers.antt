use Rattle.std.proofs.Common.{ap, sym, subst, ◌∙◌, arith}
use Rattle.std.specs.Option.{option_map}
use Rattle.std.proofs.lemmas.Option.{same_Some, none-some}
use Rattle.acpi_base.specs.Across.{IsServed}
use Rattle.acpi_base.specs.Madt.{madt_contents}
use Rattle.acpi_check.specs.NamedNumbers.{IsKnown}
use Rattle.acpi_check.specs.RangeSpans.{span_value}
use Rattle.acpi_check.specs.ServedGsis.{named_gsi}
use Rattle.acpi_check.proofs.EntryPasses.Kept.{madt_inside, madt_rising}
use Rattle.acpi_check.proofs.EntryPasses.Passes.{next_stands, none_passed, past}
use Rattle.acpi_check.proofs.ProcessorNumbers.NamedPass.{ends}
use Rattle.acpi_check.proofs.Spans.ServedFaults.{names}
use Rattle.acpi_check.proofs.Spans.ServedSpans.{serves_span}
use Rattle.acpi_check.proofs.served.does_first_serve.Goals as goal

pub loop-at-init : goal.loop-at-init
loop-at-init c =
    let Known = IsServed c.args.policy.now (madt_contents c.args.madt.now) in
    record {
      named = rw c.entries-entries.ensures.entries
          (none_passed 44 (λ o e. IsKnown Known (named_gsi e)) (madt_rising c.args.madt.now));
      first = λ g low below. absurd (omega (arith, below));
    }

pub loop-at-preserved-in-Some-named_gsi : goal.loop-at-preserved-in-Some-named_gsi
loop-at-preserved-in-Some-named_gsi c =
    let gsi = c.in-Some-named_gsi.gsi in
    let served = c.loop-at.invariant.first gsi (omega arith) (omega arith) in
    record {
      named = past (rw c.in-Some.ensures.steps.0 at c.loop-at.invariant.named) (λ n is.
          subst (IsServed c.args.policy.now (madt_contents c.args.madt.now))
          (same_Some gsi n (sym c.in-Some-named_gsi.is ∙ c.named_gsi.ensures ∙ is)) served);
      first = c.loop-at.invariant.first;
    }

pub served_span-requires : goal.served_span-requires
served_span-requires c =
    omega (
      arith,
      c.entries-entries.ensures.size,
      madt_inside c.args.madt.now _ (next_stands (rw c.in-Some.ensures.steps.0 at c.loop-at.invariant.named)),
    )

pub loop-at-preserved-in_default-named_gsi : goal.loop-at-preserved-in_default-named_gsi
loop-at-preserved-in_default-named_gsi c =
    let here = rw c.in-Some.ensures.steps.0 at c.loop-at.invariant.named in
    let span = c.in-Some-served_span.span in
    let own = sym (ap (option_map span_value) c.in-Some-served_span.is) ∙ c.served_span.ensures.span in
    record {
      named = past here (λ n is. absurd (none-some n (sym c.in_default-named_gsi.is ∙ c.named_gsi.ensures ∙ is)));
      first = λ g low below.
          (_, span.start, (_, next_stands here, serves_span c.args.policy.now _ g _ span own low below));
    }

pub loop-at-preserved : goal.loop-at-preserved
loop-at-preserved c = record {
  named = past (rw c.in-Some.ensures.steps.0 at c.loop-at.invariant.named)
      (λ n is. absurd (none-some n (sym c.in_default-named_gsi.is ∙ c.named_gsi.ensures ∙ is)));
  first = c.loop-at.invariant.first;
}

pub returns : goal.returns
returns c = λ _ _ o g (e, stands, named).
    ends (IsServed c.args.policy.now (madt_contents c.args.madt.now)) named_gsi
    (rw c.in_default.ensures.steps.0 at c.loop-at.invariant.named) o g (e, stands, (names g e).0 named)
