use Rattle.acpi_lint.proofs.CollectedNumbers.{each_ok}
use Rattle.acpi_lint.proofs.ListedSlots.{set_listed, no_slots}
use Rattle.acpi_lint.proofs.listed_slots.listed_slots.Goals as goal

pub returns-in-Some-clause-found : goal.returns-in-Some-clause-found
returns-in-Some-clause-found c = λ p root.
    each_ok c.slots_of.result
    (λ slots are. set_listed {root = c.in-Some.root} slots.items (rw c.in-Some.is at root) are)
    c.slots_of.ensures

pub returns-in-None-clause-found : goal.returns-in-None-clause-found
returns-in-None-clause-found c = λ p root. rw c.new.ensures.items (no_slots (rw c.in-None.is at root))
