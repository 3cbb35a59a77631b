use Rattle.std.proofs.Common.{arith}
use Rattle.std.proofs.lemmas.List.{take_rest}
use Rattle.acpi_confirm.proofs.Walks.{is_past, end_or_next}
use Rattle.acpi_confirm.proofs.entries.entry_from.Goals as goal

pub returns-then-start-whole : goal.returns-then-start-whole
returns-then-start-whole c = is_past _ _ (omega arith)

pub returns : goal.returns
returns c = end_or_next c.args.start c.args.whole.now c.first_entry.result (rw take_rest at c.first_entry.ensures)
