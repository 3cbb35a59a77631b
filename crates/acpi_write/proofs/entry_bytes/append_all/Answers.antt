use Rattle.std.proofs.Common.{arith}
use Rattle.acpi_write.proofs.EntryBytes.EntryLists.{appended_more, appended_all, all_more, all_of}
use Rattle.acpi_write.proofs.entry_bytes.append_all.Goals as goal

pub loop-entry-preserved : goal.loop-entry-preserved
loop-entry-preserved g c =
    let entries = c.args.entries.now in
    let i = c.loop-entry.entry-index in
    let entry = c.entry-item.result in record {
      bytes = appended_more g.E.EntryBytes.spelled entries i entry c.loop-entry-test.true c.entry-item.is _ _ _
          c.in_ok-append.ensures.bytes c.loop-entry.invariant.bytes;
      says = all_more (λ entry. g.E.EntryBytes.said_by entry (g.E.EntryBytes.spelled entry)) entries i entry
          c.loop-entry-test.true c.entry-item.is c.loop-entry.invariant.says c.in_ok-append.ensures.says;
    }

pub returns-clause-bytes : goal.returns-clause-bytes
returns-clause-bytes g c =
    appended_all g.E.EntryBytes.spelled c.args.entries.now c.loop-entry.entry-index
    (omega (arith, c.loop-entry-test.false)) _ _ c.loop-entry.invariant.bytes

pub returns-clause-says : goal.returns-clause-says
returns-clause-says g c =
    all_of (λ entry. g.E.EntryBytes.said_by entry (g.E.EntryBytes.spelled entry)) c.args.entries.now
    c.loop-entry.entry-index (omega (arith, c.loop-entry-test.false)) c.loop-entry.invariant.says
