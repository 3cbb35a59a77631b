use Rattle.std.proofs.Common.{◌≡◌, ◌++◌, drop, map}
use Rattle.acpi_c.specs.Answers.{advice_finding}
use Rattle.acpi_c.proofs.lint.add_advice.Given as goal

-- the numbers so far, and those of the advice still to come
abbrev pub invariant-loop-own : goal.invariant-loop-own
invariant-loop-own l =
    l.all.items ++ map advice_finding (drop l.own-index l.advice) ≡ l.initial.all.items ++ map advice_finding l.advice
