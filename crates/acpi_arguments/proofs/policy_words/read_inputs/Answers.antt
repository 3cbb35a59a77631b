use Rattle.std.proofs.Common.{arith, ap, sym, ◌∙◌}
use Rattle.std.proofs.lemmas.Grind.{common_steps}
use Rattle.std.specs.Result.{result_ok}
use Rattle.acpi_base.specs.Policy.{PolicyValue, with_input}
use Rattle.acpi_arguments.specs.Words.{inputs_word}
use Rattle.acpi_arguments.specs.declared.policy_words.Inputs.{Inputs}
use Rattle.acpi_arguments.proofs.InputsWords.{present, read_all, read_more, read_wrong}
use Rattle.acpi_arguments.proofs.policy_words.read_inputs.Goals as goal

-- the policy with one more count of inputs
abbrev step : PolicyValue → Inputs → PolicyValue
step q inputs = with_input q inputs.address inputs.count

pub returns-in_err-inputs-clause-refused : goal.returns-in_err-inputs-clause-refused
returns-in_err-inputs-clause-refused c =
    let wrong = sym c.inputs_of_word.ensures ∙ c.ok_or-in-loop-word.ensures.ok_part
    ∙ ap result_ok c.in_err-inputs.was in
    let none = read_wrong step inputs_word (λ text. text.now) c.args.words.now c.loop-word.word-index _
    c.loop-word-test.true wrong
    c.loop-word.policy _ c.loop-word.invariant.goes_on in
    let default = sym c.default_count.ensures ∙ c.ok_or.ensures.ok_part ∙ ap result_ok c.in_ok-default_inputs.was in
    let new = (rw c.unwrap-policy.ensures at c.new.ensures.value).1 in
    grind (arith, common_steps)

pub loop-word-preserved : goal.loop-word-preserved
loop-word-preserved c =
    let first = sym c.inputs_of_word.ensures ∙ c.ok_or-in-loop-word.ensures.ok_part
    ∙ ap result_ok c.in_ok-inputs.was in
    let added =
    present c.add_input.result _ (sym c.is_err.ensures.value ∙ c.if-is_err.false) c.add_input.ensures.value in
    record {
      goes_on = read_more step inputs_word (λ text. text.now) c.args.words.now _ _ _ c.loop-word-test.true first _ _ _
          added c.loop-word.invariant.goes_on;
    }

pub returns-clause-policy : goal.returns-clause-policy
returns-clause-policy c =
    let past = c.loop-word-test.false in
    let all = read_all step inputs_word (λ text. text.now) c.args.words.now c.loop-word.word-index (omega
    (arith, past)) _ _
    c.loop-word.invariant.goes_on in
    let default = sym c.default_count.ensures ∙ c.ok_or.ensures.ok_part ∙ ap result_ok c.in_ok-default_inputs.was in
    let new = (rw c.unwrap-policy.ensures at c.new.ensures.value).1 in
    rw default (rw (← new) all)
