use Rattle.std.proofs.Common.{ap, arith, drop, flat_map, length, length-append, ◌+◌, ◌∙◌}
use Rattle.acpi_write.proofs.EntryBytes.EntryLists.{all_more, all_of, joined_all, joined_more}
use Rattle.acpi_write.proofs.entry_bytes.sizes.Goals as goal

pub loop-entry-preserved : goal.loop-entry-preserved
loop-entry-preserved g c =
    let entries = c.args.entries.now in
    let i = c.loop-entry.entry-index in
    let entry = c.entry-item.result in
    let spelled = g.E.EntryBytes.spelled in
    let here = c.in_ok-total.ensures in
    let more = ap length (joined_more spelled entries i entry c.loop-entry-test.true c.entry-item.is)
    ∙ length-append (spelled entry) (flat_map spelled (drop (i + 1) entries)) in record {
      total = omega (arith, more, here.1, c.loop-entry.invariant.total);
      bound = omega (arith, here.2, c.loop-entry.invariant.bound);
      shaped = all_more g.E.EntryBytes.shaped entries i entry c.loop-entry-test.true c.entry-item.is
          c.loop-entry.invariant.shaped here.0;
    }

pub returns : goal.returns
returns g c =
    let entries = c.args.entries.now in
    let past = c.loop-entry-test.false in
    let none = ap length (joined_all g.E.EntryBytes.spelled entries c.loop-entry.entry-index (omega (arith, past))) in (
      all_of g.E.EntryBytes.shaped entries c.loop-entry.entry-index (omega (arith, past)) c.loop-entry.invariant.shaped,
      omega (arith, none, c.loop-entry.invariant.total),
      omega (arith, c.loop-entry.invariant.bound),
    )
