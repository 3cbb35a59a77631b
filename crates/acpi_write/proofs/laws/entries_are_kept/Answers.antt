use Rattle.acpi_write.proofs.EntryBytes.KeptEntries.{entries_are_kept}
use Rattle.acpi_write.proofs.laws.entries_are_kept.Goals as goal

pub returns : goal.returns
returns c = entries_are_kept
