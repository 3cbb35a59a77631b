use Rattle.std.proofs.Common.{refl, sym, arith}
use Rattle.acpi_check.proofs.Spans.RisingSpans.{first_merged, one_merged, next_merged, all_merged}
use Rattle.acpi_check.proofs.served.merged_spans.Goals as goal
use Rattle.acpi_check.proofs.served.merged_spans.Goals.{then-span-end, else-span-end+in_ok-push}

pub loop-span-init : goal.loop-span-init
loop-span-init c =
    let first = c.in-Some.first.now in
    let item = c.in-Some.ensures.item in
    rw c.in_ok-merged.ensures.items
    (first_merged c.args.spans.now first first c.requires item.3.0 (sym item.1) first.not_empty)

pub loop-span-preserved : goal.loop-span-preserved
loop-span-preserved c =
    let spans = c.args.spans.now in
    let i = c.loop-span.span-index in
    let span = c.span-item.result in
    let merged = c.loop-span.merged.items in
    elim c.if-span-end.branch [
      | then-span-end w ↦
          rw (w.merged-is, w.start-is, w.end-is)
          (one_merged spans i merged c.loop-span.start c.loop-span.end _ span span c.loop-span-test.true
          (sym c.span-item.is) w.if-span-end.true (omega (arith, w.max-end.ensures)) c.loop-span.invariant)
      | else-span-end+in_ok-push w ↦
          rw (w.merged-is, w.start-is, w.end-is, w.in_ok-push.ensures.items)
          (next_merged spans i merged c.loop-span.start c.loop-span.end _ span span c.requires c.loop-span-test.true
          (sym c.span-item.is) (omega (arith, w.if-span-end.false)) span.not_empty refl refl c.loop-span.invariant)
    ]

pub returns : goal.returns
returns c =
    let (rise, same) =
    all_merged c.args.spans.now c.loop-span.span-index c.loop-span.merged.items c.loop-span.start c.loop-span.end _
    c.loop-span-test.false refl refl c.loop-span.invariant in
    rw c.in_ok-push-2.ensures.items (record { rise = rise; same = same })
