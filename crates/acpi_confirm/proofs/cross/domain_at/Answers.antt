use Rattle.std.proofs.Common.{rules, tests}
use Rattle.acpi_base.specs.Srat.{srat_entry, srat_contents}
use Rattle.acpi_confirm.proofs.EntriesAt.{only_at, only_of}
use Rattle.acpi_confirm.proofs.cross.domain_at.Goals as goal

pub returns : goal.returns
unfolding srat_contents
returns c = only_at srat_entry _ _ _ _ c.entry_at.result c.and_then.result c.entry_at.ensures.there c.and_then.ensures
    (λ entry says. search (rules, tests, only_of))
