use Rattle.acpi_confirm.proofs.ListedTables.{none_without_root}
use Rattle.acpi_confirm.proofs.listed_tables.both_listed.Goals as goal

pub returns-in_default-clause-one : goal.returns-in_default-clause-one
returns-in_default-clause-one c = none_without_root (rw c.rsdp.ensures.value at c.in_default.ensures.found)

pub returns-in_default-clause-other : goal.returns-in_default-clause-other
returns-in_default-clause-other c = none_without_root (rw c.rsdp.ensures.value at c.in_default.ensures.found)

pub returns-clause-one : goal.returns-clause-one
returns-clause-one c =
    c.table_found.ensures.found _ _ _ _ (rw c.rsdp.ensures.value at c.in-Some.ensures.found)
    c.first_with_each-first.ensures.one

pub returns-clause-other : goal.returns-clause-other
returns-clause-other c =
    c.table_found-2.ensures.found _ _ _ _ (rw c.rsdp.ensures.value at c.in-Some.ensures.found)
    c.first_with_each-first.ensures.other
