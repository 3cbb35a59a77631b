use Rattle.std.proofs.Common.{rules, refl, ◌^◌, ◌<◌, arith}
use Rattle.acpi_graph.specs.declared.span.Span.{Span}
use Rattle.acpi_read.specs.Madts.{madt_value}
use Rattle.acpi_check.specs.RangeSpans.{span_value, served_span}
use Rattle.acpi_check.proofs.EntryPasses.Collecting.{gathered, gathered_each}
use Rattle.acpi_check.proofs.EntryPasses.Kept.{madt_inside}
use Rattle.acpi_check.proofs.Spans.ServedSpans.{served_spans}
use Rattle.acpi_check.proofs.interrupts.served_spans.Goals as goal

pub collected-requires : goal.collected-requires
collected-requires c =
    λ _. (
      (refl, tt),
      λ at here _ _ _ _. omega (
        arith,
        c.entries.ensures.size,
        madt_inside c.args.madt.now _ (rw c.entries.ensures.entries at here),
      ),
    )

pub returns : goal.returns
returns c =
    record {
      spans = gathered madt_value span_value (λ s. served_span c.args.policy.now s.offset s.entry) _
          c.collected.result c.collected.ensures c.entries.ensures.entries (λ at picked here answers. search rules)
          (served_spans c.args.policy.now c.args.madt.now);
      low = gathered_each madt_value (λ (span : Span). span.start < 2 ^ 64) _ c.collected.result c.collected.ensures
          (λ at picked answers. search rules);
    }
