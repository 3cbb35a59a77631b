use Rattle.acpi_base.specs.Entries.{entries_read_by}
use Rattle.acpi_base.specs.Srat.{srat_entry, srat_contents, PutsIn}
use Rattle.acpi_check.proofs.EntryPasses.RisingKeys.{DoRiseTo}
use Rattle.acpi_check.proofs.domains.do_processors_rise.Given as goal

-- the processors of entries so far rise, and the entries left are the rest of the table's
abbrev pub invariant-loop-at : goal.invariant-loop-at
invariant-loop-at l =
    DoRiseTo PutsIn (srat_contents l.fn.srat).entries (entries_read_by srat_entry l.entries.entries.entries) l.least
