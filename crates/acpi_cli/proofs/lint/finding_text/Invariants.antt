use Rattle.std.proofs.Common.{◌≡◌, ◌++◌, drop, flat_map}
use Rattle.acpi_lint.specs.AdviceText.{advice_line}
use Rattle.acpi_cli.proofs.lint.finding_text.Given as goal

-- the lines so far, and those of the advice still to come
abbrev pub invariant-loop-finding : goal.invariant-loop-finding
invariant-loop-finding l =
    l.text.items ++ flat_map advice_line (drop l.finding-index l.advice) ≡ l.initial.text.items ++ flat_map
    advice_line l.advice
