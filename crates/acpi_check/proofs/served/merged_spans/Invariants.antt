use Rattle.acpi_check.proofs.Spans.RisingSpans.{AreMerged}
use Rattle.acpi_check.proofs.served.merged_spans.Given as goal

-- the spans so far are merged
abbrev pub invariant-loop-span : goal.invariant-loop-span
invariant-loop-span l = AreMerged l.fn.spans l.span-index l.merged.items l.start l.end
