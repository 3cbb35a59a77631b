use Rattle.std.proofs.Common.{◌≡◌, None, [], ◌++◌, ◌∷◌, map, arith, ap, sym, ◌∙◌}
use Rattle.std.proofs.lemmas.Grind.{common_steps}
use Rattle.std.specs.Result.{result_ok}
use Rattle.acpi_lint.specs.Rules.Rows.{rule_named}
use Rattle.acpi_arguments.specs.Words.{all_read}
use Rattle.acpi_arguments.proofs.InputsWords.{all_added, kept_if_ok, read_all, read_more, read_wrong, with_last}
use Rattle.acpi_arguments.proofs.allowed.rules_named.Goals as goal

pub loop-name-init : goal.loop-name-init
loop-name-init c = record {
  goes_on = rw c.new-rules.ensures.items (all_added (all_read rule_named (map (λ name. name.now) c.args.names.now)));
}

pub returns-in_err-rule-clause-refused : goal.returns-in_err-rule-clause-refused
returns-in_err-rule-clause-refused c =
    let wrong = sym c.from_name.ensures ∙ c.ok_or.ensures.ok_part ∙ ap result_ok c.in_err-rule.was in
    let none = read_wrong with_last rule_named (λ name. name.now) c.args.names.now c.loop-name.name-index _
    c.loop-name-test.true wrong c.loop-name.rules.items _ c.loop-name.invariant.goes_on in
    grind (arith, common_steps)

pub loop-name-preserved : goal.loop-name-preserved
loop-name-preserved c =
    let first = sym c.from_name.ensures ∙ c.ok_or.ensures.ok_part ∙ ap result_ok c.in_ok-rule.was in
    let added = c.push.ensures.items ∙ kept_if_ok c.push.result _ _ (sym c.is_err.ensures.value ∙
    c.if-is_err.false) in
    record {
      goes_on = read_more with_last rule_named (λ name. name.now) c.args.names.now _ _ _
          c.loop-name-test.true first _ _ _
          added c.loop-name.invariant.goes_on;
    }

pub returns-clause-rules : goal.returns-clause-rules
returns-clause-rules c =
    read_all with_last rule_named (λ name. name.now) c.args.names.now c.loop-name.name-index
    (omega (arith, c.loop-name-test.false)) _ _ c.loop-name.invariant.goes_on
