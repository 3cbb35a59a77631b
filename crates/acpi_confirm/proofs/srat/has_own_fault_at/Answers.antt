use Rattle.std.proofs.Common.{rules, tests}
use Rattle.acpi_base.specs.Srat.{srat_entry, srat_contents}
use Rattle.acpi_confirm.proofs.EntriesAt.{test_at}
use Rattle.acpi_confirm.proofs.srat.has_own_fault_at.Goals as goal

pub returns : goal.returns
unfolding srat_contents
returns c = test_at srat_entry _ _ _ _ c.entry_at.result c.is_some_and.result c.entry_at.ensures.there
    c.is_some_and.ensures (λ entry says. search (rules, tests))
