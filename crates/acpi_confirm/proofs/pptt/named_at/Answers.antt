use Rattle.std.proofs.Common.{◌≡◌, Some, rules, tests}
use Rattle.acpi_base.specs.Pptt.{pptt_entry, pptt_contents}
use Rattle.acpi_confirm.specs.References.{named_offset}
use Rattle.acpi_confirm.proofs.PpttEntries.{names_of}
use Rattle.acpi_confirm.proofs.EntriesAt.{only_at, only_same}
use Rattle.acpi_confirm.proofs.pptt.named_at.Goals as goal

pub returns : goal.returns
unfolding pptt_contents
returns c = names_of c.args.chain _ c.args.at c.and_then.result
    (only_at pptt_entry _ _ (λ p e. named_offset c.args.chain e ≡ Some p) _ c.entry_at.result c.and_then.result
    c.entry_at.ensures.there c.and_then.ensures (λ entry says. only_same _ _ (search (rules, tests))))
