use Rattle.std.proofs.lemmas.Bool.{false≢true}
use Rattle.acpi_confirm.proofs.ListedTables.{root_of_none, test_of_none}
use Rattle.acpi_confirm.proofs.listed_tables.lists_none.Goals as goal

pub returns-in-Some : goal.returns-in-Some
returns-in-Some c =
    test_of_none c.first_with.result c.is_none.result (rw c.rsdp.ensures.value at c.in-Some.ensures.found)
    c.is_none.ensures c.first_with.ensures

pub returns-in-None : goal.returns-in-None
returns-in-None c = (
  λ yes. absurd (false≢true yes),
  λ none. absurd ((rw c.rsdp.ensures.value at c.in-None.ensures.found) _ _ (root_of_none none)),
)
