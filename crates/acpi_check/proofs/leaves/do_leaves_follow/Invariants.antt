use Rattle.acpi_base.specs.Across.{IsUid}
use Rattle.acpi_base.specs.Entries.{entries_read_by}
use Rattle.acpi_base.specs.Madt.{madt_entry, madt_contents}
use Rattle.acpi_base.specs.Pptt.{pptt_entry, pptt_contents}
use Rattle.acpi_check.specs.NamedNumbers.{AreAmong}
use Rattle.acpi_check.specs.Processors.{leaf_id}
use Rattle.acpi_check.proofs.ProcessorNumbers.NamedPass.{IsAt}
use Rattle.acpi_check.proofs.leaves.do_leaves_follow.Given as goal

-- the leaves so far are processors, the entries left are the rest of the PPTT's, and the processors left are among the
-- MADT's
abbrev pub invariant-loop-at : goal.invariant-loop-at
invariant-loop-at l = record {
  leaves : IsAt (IsUid (madt_contents l.fn.madt)) leaf_id (pptt_contents l.fn.pptt).entries
      (entries_read_by pptt_entry l.entries.entries.entries);
  processors : AreAmong (entries_read_by madt_entry l.processors.entries.entries) (madt_contents l.fn.madt).entries;
}
