use Rattle.std.proofs.Common.{rules, ◌≡◌, None}
use Rattle.acpi_confirm.proofs.ListedTables.{none_without_root}
use Rattle.acpi_confirm.proofs.listed_tables.listed.Goals as goal

pub returns-in_err-root-clause-found : goal.returns-in_err-root-clause-found
returns-in_err-root-clause-found c =
    let none : c.from_residual.result ≡ None = search rules in
    rw none (none_without_root (rw c.rsdp.ensures.value at c.in_err-root.ensures.found))

pub returns-clause-found : goal.returns-clause-found
returns-clause-found c =
    c.table_found.ensures.found _ _ _ _ (rw c.rsdp.ensures.value at c.in_ok-root.ensures.found) c.first_with.ensures
