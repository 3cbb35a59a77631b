use Rattle.std.proofs.Common.{ap, sym, ◌∙◌, arith}
use Rattle.std.specs.Option.{option_map}
use Rattle.std.specs.Prelude.{⊤}
use Rattle.acpi_base.specs.Madt.{madt_contents}
use Rattle.acpi_check.specs.RangeSpans.{span_value}
use Rattle.acpi_check.proofs.EntryPasses.Kept.{madt_inside, madt_rising}
use Rattle.acpi_check.proofs.EntryPasses.Passes.{next_stands, none_passed, past}
use Rattle.acpi_check.proofs.EntryPasses.RisingKeys.{begins, with_some, without, ends_apart}
use Rattle.acpi_check.proofs.Spans.ServedSpans.{in_span, no_span}
use Rattle.acpi_check.proofs.interrupts.do_numbers_rise.Goals as goal

pub loop-at-init : goal.loop-at-init
loop-at-init c = record {
  rise = rw c.entries-entries.ensures.entries (begins (madt_contents c.args.madt.now).entries);
  listed = rw c.entries-entries.ensures.entries (none_passed 44 (λ _ _. ⊤) (madt_rising c.args.madt.now));
}

pub served_span-requires : goal.served_span-requires
served_span-requires c =
    omega (
      arith,
      c.entries-entries.ensures.size,
      madt_inside c.args.madt.now _ (next_stands (rw c.in-Some.ensures.steps.0 at c.loop-at.invariant.listed)),
    )

pub loop-at-preserved-in-Some-served_span : goal.loop-at-preserved-in-Some-served_span
loop-at-preserved-in-Some-served_span c =
    let span = c.in-Some-served_span.span in
    let high = c.if-span-least.false in
    let own = sym (ap (option_map span_value) c.in-Some-served_span.is) ∙ c.served_span.ensures.span in
    record {
      rise = with_some span.end (rw c.in-Some.ensures.steps.0 at c.loop-at.invariant.rise)
          (let some = span.not_empty in omega arith)
          (λ x s serves. let inside = in_span c.args.policy.now _ s x _ span own serves in
          (omega (arith, inside.0, high), inside.1));
      listed = past (rw c.in-Some.ensures.steps.0 at c.loop-at.invariant.listed) tt;
    }

pub loop-at-preserved : goal.loop-at-preserved
loop-at-preserved c =
    let none = sym (ap (option_map span_value) c.in_default-served_span.is) ∙ c.served_span.ensures.span in
    record {
      rise = without (rw c.in-Some.ensures.steps.0 at c.loop-at.invariant.rise)
          (λ x s. no_span c.args.policy.now _ s x _ none);
      listed = past (rw c.in-Some.ensures.steps.0 at c.loop-at.invariant.listed) tt;
    }

pub returns : goal.returns
returns c = λ rise o p x overlap.
    overlap.two (ends_apart (rw c.in_default.ensures.steps.0 at c.loop-at.invariant.rise) o p x overlap.s overlap.t
    overlap.one_holds overlap.other_holds)
