use Rattle.acpi_confirm.proofs.Starts.{has_entry, noted_with}
use Rattle.acpi_confirm.proofs.Walks.{over_next}
use Rattle.acpi_confirm.proofs.pptt.starts.note_starts.Goals as goal

pub loop-entry-preserved : goal.loop-entry-preserved
loop-entry-preserved c =
    let (over, starts) = c.loop-entry.invariant in
    let next = c.in-Some.ensures in (
      over_next _ 36 c.loop-entry.start c.args.pptt.now c.in-Some.entry.now over next tt,
      noted_with _ c.loop-entry.start _ _ c.args.pptt.now starts
          (has_entry _ c.loop-entry.start c.args.pptt.now c.in-Some.entry.now over next) c.note.ensures,
    )
