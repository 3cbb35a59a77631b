use Rattle.std.proofs.Common.{rules, tests}
use Rattle.acpi_confirm.proofs.ListedTables.{test_of_both}
use Rattle.acpi_confirm.proofs.in_tables.in_madt_and_pptt.Goals as goal

pub returns : goal.returns
returns c = test_of_both _ _ c.both_listed.result.0 c.both_listed.result.1 c.zip.result c.is_some_and.result
    c.both_listed.ensures.one c.both_listed.ensures.other c.zip.ensures c.is_some_and.ensures
    (λ pair says. search (rules, tests))
