use Rattle.std.proofs.Common.{◌≡◌, ◌++◌, drop, flat_map}
use Rattle.acpi_cli.specs.Commands.{no_line}
use Rattle.acpi_cli.proofs.lint.no_text.Given as goal

-- the lines of the faults before the index, and of those still to come
abbrev pub invariant-loop-fault : goal.invariant-loop-fault
invariant-loop-fault l =
    l.text.items ++ flat_map no_line (drop l.fault-index l.faults) ≡ flat_map no_line l.faults
