use Rattle.std.proofs.Common.{◌≡◌, length}
use Rattle.acpi_base.specs.Entries.{entries_read_by}
use Rattle.acpi_base.specs.Srat.{srat_entry, srat_contents}
use Rattle.acpi_check.specs.Processors.{PutsPlaced}
use Rattle.acpi_check.proofs.EntryPasses.ValuesPass.{IsAt}
use Rattle.acpi_check.proofs.domains.first_other_domain.Given as goal

-- of the processors with the numbers the first domains are kept, and the other entries so far agree with them; the
-- entries left are the rest of the table's
abbrev pub invariant-loop-at : goal.invariant-loop-at
invariant-loop-at l =
    IsAt (PutsPlaced l.fn.numbers) (srat_contents l.fn.srat).entries
    (entries_read_by srat_entry l.entries.entries.entries) l.firsts.items
    × (length l.firsts.items ≡ length l.fn.numbers)
