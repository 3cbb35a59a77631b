use Rattle.acpi_lint.proofs.ByHand.{found_of}
use Rattle.acpi_lint.proofs.advice.place_by_hand.Goals as goal

pub returns : goal.returns
returns c = λ m q found rule is.
    found_of m q rule c.args.found.now c.lowest_of.result found (rw is c.lowest_of.ensures)
