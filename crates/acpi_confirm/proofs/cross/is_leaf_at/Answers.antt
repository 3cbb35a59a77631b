use Rattle.std.proofs.Common.{rules, tests}
use Rattle.acpi_base.specs.Pptt.{pptt_entry, pptt_contents}
use Rattle.acpi_confirm.proofs.EntriesAt.{test_at}
use Rattle.acpi_confirm.proofs.cross.is_leaf_at.Goals as goal

pub returns : goal.returns
unfolding pptt_contents
returns c = test_at pptt_entry _ _ _ _ c.entry_at.result c.is_some_and.result c.entry_at.ensures.there
    c.is_some_and.ensures (λ entry says. search (rules, tests))
