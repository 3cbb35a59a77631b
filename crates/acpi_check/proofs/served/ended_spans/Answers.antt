use Rattle.std.proofs.Common.{leb, leb-true, arith, rules}
use Rattle.std.proofs.lemmas.Bool.{leb-false}
use Rattle.std.proofs.lemmas.List.Sorted.{IsPartitionPoint-from_clause, IsPartitionedBy-leb}
use Rattle.acpi_graph.specs.declared.span.Span.{Span}
use Rattle.acpi_check.proofs.Spans.RisingSpans.{ends_rise}
use Rattle.acpi_check.proofs.served.ended_spans.Goals as goal

pub returns : goal.returns
returns c =
    let spans = c.args.spans.now in
    let parted = IsPartitionedBy-leb (λ (s : Span). s.end) spans c.args.gsi (ends_rise spans c.requires) in
    let point = IsPartitionPoint-from_clause (λ (s : Span). leb s.end c.args.gsi) _ _
    c.partition_point.ensures.partitioned parted (λ a r q k. search rules) in
    record {
      ended = λ k d below within. leb-true _ _ (point.0 k d (omega arith) below);
      later = λ k d from within. leb-false _ _ (point.1 k d from within);
    }
