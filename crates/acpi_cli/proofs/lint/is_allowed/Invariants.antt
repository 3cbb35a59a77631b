use Rattle.std.proofs.Common.{◌≡◌, take, false}
use Rattle.acpi_cli.specs.Commands.{is_allowed}
use Rattle.acpi_cli.proofs.lint.is_allowed.Given as goal

-- none of those before the index is the rule
abbrev pub invariant-loop-other : goal.invariant-loop-other
invariant-loop-other l = is_allowed (take l.other-index l.allowed) l.rule ≡ false
