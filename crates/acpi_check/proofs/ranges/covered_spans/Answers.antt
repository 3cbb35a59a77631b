use Rattle.std.proofs.Common.{rules, refl, ◌^◌, ◌<◌, arith}
use Rattle.acpi_graph.specs.declared.span.Span.{Span}
use Rattle.acpi_read.specs.Srats.{srat_value}
use Rattle.acpi_check.specs.RangeSpans.{span_value, covered_span, counts}
use Rattle.acpi_check.proofs.EntryPasses.Collecting.{gathered, gathered_each}
use Rattle.acpi_check.proofs.EntryPasses.Kept.{srat_inside}
use Rattle.acpi_check.proofs.Spans.RangeClashes.{kind_spans}
use Rattle.acpi_check.proofs.ranges.covered_spans.Goals as goal

pub collected-requires : goal.collected-requires
collected-requires c =
    λ _. (
      (refl, tt),
      λ at here _ _ _ _. omega (
        arith,
        c.entries.ensures.size,
        srat_inside c.args.srat.now _ (rw c.entries.ensures.entries at here),
      ),
    )

pub returns : goal.returns
returns c =
    record {
      spans = gathered srat_value span_value (λ s. covered_span (counts c.args.kind) s.offset s.entry) _
          c.collected.result c.collected.ensures c.entries.ensures.entries (λ at picked here answers. search rules)
          (kind_spans c.args.kind c.args.srat.now);
      low = gathered_each srat_value (λ (span : Span). span.start < 2 ^ 64) _ c.collected.result c.collected.ensures
          (λ at picked answers. search rules);
    }
