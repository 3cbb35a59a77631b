use Rattle.acpi_base.specs.Entries.{entries_read_by}
use Rattle.acpi_base.specs.Pptt.{pptt_entry, pptt_contents}
use Rattle.acpi_check.proofs.EntryPasses.Passes.{HasPassed}
use Rattle.acpi_check.proofs.NodeLinks.OneWay.{IsOneWay}
use Rattle.acpi_check.proofs.chains.do_all_lead.Given as goal

-- the references of entries so far lead one way, and the entries left are the rest of the table's
abbrev pub invariant-loop-at : goal.invariant-loop-at
invariant-loop-at l =
    HasPassed (pptt_contents l.fn.pptt).entries (entries_read_by pptt_entry l.entries.entries.entries)
    (IsOneWay l.fn.chain l.fn.up)
