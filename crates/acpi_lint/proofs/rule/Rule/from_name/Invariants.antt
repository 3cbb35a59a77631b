use Rattle.std.proofs.Common.{◌≡◌, drop}
use Rattle.std.specs.Str.{bytes_eq}
use Rattle.acpi_lint.specs.Rules.Rows.{rule_name, rule_named}
use Rattle.acpi_lint.proofs.RuleNumbers.{rule_by}
use Rattle.acpi_lint.proofs.rule.Rule.from_name.Given as goal

-- it is none of the rows before
abbrev pub invariant-loop-row : goal.invariant-loop-row
invariant-loop-row l =
    rule_by (λ row. bytes_eq (rule_name row.0) l.name) (drop l.row-index l.row-items) ≡ rule_named l.name
