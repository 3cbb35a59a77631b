use Rattle.acpi_base.specs.Entries.{entries_read_by}
use Rattle.acpi_base.specs.Pptt.{pptt_entry, pptt_contents}
use Rattle.acpi_check.proofs.NodeLinks.ReferencePass.{IsAt}
use Rattle.acpi_check.proofs.references.first_fault.Given as goal

-- what the entries so far name is present, and those left are the rest of the table's
abbrev pub invariant-loop-at : goal.invariant-loop-at
invariant-loop-at l = IsAt l.fn.places (pptt_contents l.fn.pptt) (entries_read_by pptt_entry l.entries.entries.entries)
