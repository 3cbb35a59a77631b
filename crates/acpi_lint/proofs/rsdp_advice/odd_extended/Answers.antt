use Rattle.std.proofs.Common.{rules}
use Rattle.acpi_lint.specs.Rules.RsdpAdvice.{AreExtendedBytes}
use Rattle.acpi_lint.proofs.OddFields.{first_extended}
use Rattle.acpi_lint.proofs.rsdp_advice.odd_extended.Goals as goal

pub returns : goal.returns
returns c =
    let bytes = c.in_ok-bytes.bytes.now in
    let there : AreExtendedBytes c.args.image.now c.args.rsdp bytes = search rules in
    rw c.or.ensures
    (first_extended c.args.image.now c.args.rsdp bytes c.long_rsdp.result c.used.result there c.long_rsdp.ensures
    c.used.ensures)
