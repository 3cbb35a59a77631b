use Rattle.std.proofs.Common.{arith}
use Rattle.std.proofs.lemmas.Bool.{le-ltb}
use Rattle.acpi_check.proofs.Spans.RisingSpans.{in_place, in_none}
use Rattle.acpi_check.proofs.served.has_number.Goals as goal

pub returns-then-ended-spans : goal.returns-then-ended-spans
returns-then-ended-spans c =
    rw c.from.ensures
    (in_place c.args.spans.now c.args.gsi c.ended_spans-ended.result _ c.requires c.ended_spans-ended.ensures
    c.if-ended-spans.true)

pub returns-else-ended-spans : goal.returns-else-ended-spans
returns-else-ended-spans c =
    rw (le-ltb _ _ c.if-ended-spans.false)
    (in_none c.args.spans.now c.args.gsi c.ended_spans-ended.result c.requires c.ended_spans-ended.ensures
    (λ d inside. absurd (omega (arith, inside, c.if-ended-spans.false))))
