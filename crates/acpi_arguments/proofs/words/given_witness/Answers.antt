use Rattle.std.proofs.Common.{◌≡◌, Some, None, rules, arith, sym, ◌∙◌}
use Rattle.acpi_base.specs.Laws.{NumbersFit}
use Rattle.acpi_arguments.proofs.FaultWords.{is_read, none_is_read}
use Rattle.acpi_arguments.proofs.words.given_witness.Goals as goal

pub returns-in_err-code : goal.returns-in_err-code
returns-in_err-code c =
    let none : c.from_residual-in_err-code.result ≡ None = search rules in
    let word : c.args.word ≡ Some c.in_ok-word.field-0 = search rules in
    let text : c.as_bytes.result.now ≡ c.in_ok-word.field-0.now = search rules in
    rw (none, word) (none_is_read c.in_ok-word.field-0.now
    (λ w fits line. let found = c.in_err-code.ensures.every w fits (text ∙ line) in absurd (cc)))

fits : (c : goal.In_ok-code) → NumbersFit c.in_ok-code.field-0
fits c =
    let at = c.in_ok-code.at-is in
    let other = c.in_ok-code.other-is in
    let point = c.in_ok-code.point-is in
    (omega arith, omega arith, omega arith)

pub returns : goal.returns
returns c =
    let word : c.args.word ≡ Some c.in_ok-word.field-0 = search rules in
    let text : c.as_bytes.result.now ≡ c.in_ok-word.field-0.now = search rules in
    rw word (sym (is_read c.in_ok-word.field-0.now c.in_ok-code.field-0 (fits c)
    (sym text ∙ c.in_ok-code.ensures.text)))
