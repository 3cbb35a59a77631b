use Rattle.std.proofs.Common.{◌≡◌, None, rules}
use Rattle.acpi_lint.proofs.structures.table_range.Goals as goal

pub returns-in_err-table : goal.returns-in_err-table
returns-in_err-table c =
    let none : c.from_residual.result ≡ None = search rules in
    let no = rw c.in_err-table.was at c.complete.ensures in
    rw none (λ s n (is, (header, whole, table, count)). no header whole (rw is at table))
