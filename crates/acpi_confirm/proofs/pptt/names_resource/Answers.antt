use Rattle.std.proofs.Common.{◌≡◌, Some, rules, tests}
use Rattle.acpi_base.specs.Pptt.{resource_of, pptt_entry, pptt_contents}
use Rattle.acpi_confirm.proofs.EntriesAt.{test_at}
use Rattle.acpi_confirm.proofs.pptt.names_resource.Goals as goal

pub returns : goal.returns
unfolding pptt_contents
returns c = test_at pptt_entry _ _ (λ e. resource_of c.args.index e ≡ Some c.args.resource) _ c.entry_at.result
    c.is_some_and.result c.entry_at.ensures.there c.is_some_and.ensures (λ entry says. search (rules, tests))
