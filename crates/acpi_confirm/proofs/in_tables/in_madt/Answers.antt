use Rattle.std.proofs.Common.{rules, tests}
use Rattle.acpi_confirm.proofs.ListedTables.{test_of_found}
use Rattle.acpi_confirm.proofs.in_tables.in_madt.Goals as goal

pub returns : goal.returns
returns c = test_of_found _ _ c.listed.result c.is_some_and.result c.listed.ensures.found c.is_some_and.ensures
    (λ whole says. search (rules, tests))
