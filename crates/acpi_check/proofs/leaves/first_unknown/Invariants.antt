use Rattle.std.specs.Prelude.{Contains}
use Rattle.acpi_base.specs.Entries.{entries_read_by}
use Rattle.acpi_base.specs.Pptt.{pptt_entry, pptt_contents}
use Rattle.acpi_check.specs.Processors.{leaf_id}
use Rattle.acpi_check.proofs.ProcessorNumbers.NamedPass.{IsAt}
use Rattle.acpi_check.proofs.leaves.first_unknown.Given as goal

-- the leaves so far are known, and the entries left are the rest of the table's
abbrev pub invariant-loop-at : goal.invariant-loop-at
invariant-loop-at l =
    IsAt (Contains l.fn.uids) leaf_id (pptt_contents l.fn.pptt).entries
    (entries_read_by pptt_entry l.entries.entries.entries)
