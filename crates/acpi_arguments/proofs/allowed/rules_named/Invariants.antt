use Rattle.std.proofs.Common.{◌≡◌, map}
use Rattle.acpi_lint.specs.Rules.Rows.{rule_named}
use Rattle.acpi_arguments.specs.Words.{all_read}
use Rattle.acpi_arguments.proofs.InputsWords.{made_from, with_last}
use Rattle.acpi_arguments.proofs.allowed.rules_named.Given as goal

-- the names that are left give the rules so far what all names give
abbrev pub invariant-loop-name : goal.invariant-loop-name
invariant-loop-name l = record {
  goes_on : made_from with_last rule_named (λ name. name.now) l.names l.name-index l.rules.items
      ≡ all_read rule_named (map (λ name. name.now) l.names);
}
