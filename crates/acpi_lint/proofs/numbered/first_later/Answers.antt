use Rattle.acpi_lint.proofs.CollectedNumbers.{each_ok}
use Rattle.acpi_lint.proofs.SameNumbers.{found_later}
use Rattle.acpi_lint.proofs.numbered.first_later.Goals as goal

pub returns : goal.returns
returns c = λ rise.
    each_ok c.first_repeated.result (λ found least. found_later c.args.given.items found c.requires least)
    c.first_repeated.ensures.found
