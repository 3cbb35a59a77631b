use Rattle.std.proofs.Common.{◌≡◌, take}
use Rattle.acpi_cli.specs.Commands.{other_advice}
use Rattle.acpi_cli.proofs.lint.other_advice.Given as goal

-- the other advice of the findings before the index
abbrev pub invariant-loop-finding : goal.invariant-loop-finding
invariant-loop-finding l = l.others.items ≡ other_advice l.allowed (take l.finding-index l.advice)
