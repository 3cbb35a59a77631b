use Rattle.std.proofs.lemmas.List.{take_rest}
use Rattle.acpi_read.proofs.EntriesLeft.{last_or_next}
use Rattle.acpi_read.proofs.entries.entry_at.Goals as goal

pub returns : goal.returns
returns c = last_or_next c.args.offset c.args.whole.now c.first_entry.result c.requires
    (rw take_rest at c.first_entry.ensures)
