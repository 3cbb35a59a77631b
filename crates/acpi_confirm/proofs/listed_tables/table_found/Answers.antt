use Rattle.std.proofs.Common.{rules, ◌≡◌, None}
use Rattle.acpi_base.proofs.Tables.Listed.{none_and_first_listed}
use Rattle.acpi_confirm.proofs.ListedTables.{first_of_listed, table_of_first}
use Rattle.acpi_confirm.proofs.listed_tables.table_found.Goals as goal

pub returns-in_err-address-clause-found : goal.returns-in_err-address-clause-found
returns-in_err-address-clause-found c = λ p d bytes signature root found.
    let none : c.from_residual.result ≡ None = search rules in
    let missed = rw c.in_err-address.was at found in
    rw none (λ whole listed. none_and_first_listed missed (first_of_listed root listed))

pub returns-clause-found : goal.returns-clause-found
returns-clause-found c = λ p d bytes signature root found.
    let first = rw c.in_ok-address.was at found in
    table_of_first c.in_ok-address.field-0 c.table_at.result root first c.table_at.ensures.found
