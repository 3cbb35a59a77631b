use Rattle.std.proofs.Common.{◌≡◌, None, Some, rules, sym, ◌∙◌}
use Rattle.acpi_lint.proofs.RowFindings.{first_of_rule, some_advice}
use Rattle.acpi_lint.proofs.RuleNumbers.{no_rule}
use Rattle.acpi_lint.proofs.advice.first_finding.Goals as goal

pub returns-in_err-at : goal.returns-in_err-at
returns-in_err-at c = λ m q tables are rows by_hand.
    let none : c.lowest_of.result ≡ None = search rules in
    let nothing : c.from_residual.result ≡ None = search rules in
    rw nothing
    (λ a is first.
    first_of_rule m q tables a.rule c.place_by_hand-place.result c.args.rows.now None are
    (c.place_by_hand-place.ensures m q by_hand a.rule is) rows (rw (sym is, none) at c.lowest_of.ensures)
    a.at a.other a.point first.broken)

pub returns-in_err-rule : goal.returns-in_err-rule
returns-in_err-rule c = λ m q tables are rows by_hand.
    let none : c.new.result ≡ None = search rules in
    let nothing : c.from_residual-in_err-rule.result ≡ None = search rules in
    rw nothing (λ a is first. no_rule c.args.number a.rule (sym c.new.ensures.found ∙ none) is)

pub returns : goal.returns
returns c = λ m q tables are rows by_hand.
    let rule = c.in_ok-rule.rule in
    let is = c.in_ok-rule.ensures.same in
    let some : c.lowest_of.result ≡ Some c.in_ok-at.field-0 = search rules in
    some_advice m q rule c.args.number c.in_ok-at.field-0 is
    (first_of_rule m q tables rule c.place_by_hand-place.result c.args.rows.now (Some c.in_ok-at.field-0) are
    (c.place_by_hand-place.ensures m q by_hand rule is) rows (rw (sym is, some) at c.lowest_of.ensures))
