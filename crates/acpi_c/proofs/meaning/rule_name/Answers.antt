use Rattle.std.proofs.Common.{◌∙◌}
use Rattle.acpi_c.proofs.RuleNames.{end_of, ends_at, is_name, rises, start_of, starts_at, within}
use Rattle.acpi_c.proofs.meaning.rule_name.Goals as goal

pub returns : goal.returns
returns c =
    let r = c.args.rule in
    (rw (c.as_slice.ensures, c.place.ensures) at c.nth_text.ensures) (start_of r) (end_of r) (starts_at r) (ends_at r)
    (rises r) (within r)
    ∙ is_name r
