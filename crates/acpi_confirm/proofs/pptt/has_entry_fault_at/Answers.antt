use Rattle.std.proofs.Common.{rules, tests}
use Rattle.acpi_base.specs.Pptt.{pptt_entry, pptt_contents}
use Rattle.acpi_confirm.proofs.EntriesAt.{test_at}
use Rattle.acpi_confirm.proofs.pptt.has_entry_fault_at.Goals as goal

pub returns-in-PpttEntryLength : goal.returns-in-PpttEntryLength
unfolding pptt_contents
returns-in-PpttEntryLength c =
    rw c.in-PpttEntryLength.is (test_at pptt_entry _ _ _ _ c.entry_at.result c.is_some_and.result
    c.entry_at.ensures.there c.is_some_and.ensures (λ entry says. search (rules, tests)))
