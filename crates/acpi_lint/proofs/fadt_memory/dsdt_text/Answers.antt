use Rattle.std.proofs.Common.{rules}
use Rattle.acpi_lint.specs.Rules.NamedAdvice.{IsDsdtHeader}
use Rattle.acpi_lint.proofs.OddFields.{of_dsdt_header}
use Rattle.acpi_lint.proofs.fadt_memory.dsdt_text.Goals as goal

pub returns : goal.returns
returns c =
    let header = c.in_ok-header.header.now in
    let is : IsDsdtHeader c.args.image.now c.args.fadt.now header = search rules in
    of_dsdt_header c.args.image.now c.args.fadt.now header c.odd_oem.result is c.odd_oem.ensures
