use Rattle.std.proofs.Common.{rules}
use Rattle.acpi_lint.proofs.OddFields.{of_head}
use Rattle.acpi_lint.proofs.rsdp_advice.rsdp_text.Goals as goal

pub returns : goal.returns
returns c =
    of_head c.args.image.now c.args.rsdp c.in_ok-window.field-0.now c.odd_number.result (search rules)
    c.odd_number.ensures
