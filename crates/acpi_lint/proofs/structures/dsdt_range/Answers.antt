use Rattle.std.proofs.Common.{rules}
use Rattle.acpi_lint.proofs.StructureRanges.{dsdt_signed}
use Rattle.acpi_lint.proofs.structures.dsdt_range.Goals as goal

pub returns : goal.returns
returns c =
    dsdt_signed c.args.image.now c.args.fadt.now c.dsdt_address-address.result c.in_ok-window.field-0.now
    c.table_range.result c.dsdt_address-address.ensures (search rules) (search rules) (search rules)
    c.table_range.ensures
