use Rattle.std.proofs.Common.{rules, ◌≡◌}
use Rattle.std.specs.Prelude.{Some}
use Rattle.acpi_base.specs.Memory.{bytes_at}
use Rattle.acpi_lint.proofs.TablesAt.{table_there}
use Rattle.acpi_lint.proofs.table_at.TableAt.of.Goals as goal

pub returns-clause-noted : goal.returns-clause-noted
returns-clause-noted c =
    let present : bytes_at c.args.image.now c.args.address 36 ≡ Some c.in-Some.header.now = search rules in
    table_there _ c.in-Some.header.now present (search rules) c.odd_field.ensures
    c.table_fault.ensures c.of.ensures c.of-2.ensures c.is_apart.ensures
