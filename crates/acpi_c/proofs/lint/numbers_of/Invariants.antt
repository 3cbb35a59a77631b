use Rattle.std.proofs.Common.{◌≡◌, ◌++◌, drop, map}
use Rattle.acpi_c.specs.Answers.{fault_finding}
use Rattle.acpi_c.proofs.lint.numbers_of.Given as goal

-- the numbers so far, and those of the faults still to come
abbrev pub invariant-loop-fault : goal.invariant-loop-fault
invariant-loop-fault l =
    l.all.items ++ map fault_finding (drop l.fault-index l.fault-items) ≡ map fault_finding l.fault-items
