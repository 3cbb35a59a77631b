use Rattle.std.proofs.Common.{◌≡◌, drop}
use Rattle.std.specs.Prelude.{◌==◌}
use Rattle.acpi_lint.specs.Rules.Rows.{rule_numbered}
use Rattle.acpi_lint.proofs.RuleNumbers.{rule_by}
use Rattle.acpi_lint.proofs.rule.Rule.new.Given as goal

-- it is none of the rows before
abbrev pub invariant-loop-row : goal.invariant-loop-row
invariant-loop-row l = rule_by (λ row. row.1 == l.number) (drop l.row-index l.row-items) ≡ rule_numbered l.number
