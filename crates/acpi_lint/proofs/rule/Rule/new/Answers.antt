use Rattle.std.proofs.Common.{◌∙◌, sym, ap}
use Rattle.std.specs.Prelude.{◌==◌}
use Rattle.std.proofs.Math.ListN.{drop_of_length-le}
use Rattle.acpi_lint.specs.Rules.Rows.{rule_numbered}
use Rattle.acpi_lint.proofs.RuleNumbers.{no_rule, number_after, number_here, numbered_rows, rule_by}
use Rattle.acpi_lint.proofs.rule.Rule.new.Goals as goal

pub loop-row-init : goal.loop-row-init
loop-row-init c = numbered_rows c.args.number c.rows-row-items.result.now c.rows-row-items.ensures

pub loop-row-preserved : goal.loop-row-preserved
loop-row-preserved c =
    number_after c.rows-row-items.result.now c.loop-row.row-index _ c.args.number (rule_numbered c.args.number)
    c.loop-row-test.true c.loop-row.invariant c.if-row-number.false

pub returns-then-row-number-clause-found : goal.returns-then-row-number-clause-found
returns-then-row-number-clause-found c =
    number_here c.rows-row-items.result.now c.loop-row.row-index _ c.args.number (rule_numbered c.args.number)
    c.loop-row-test.true c.loop-row.invariant c.if-row-number.true

pub returns-clause-found : goal.returns-clause-found
returns-clause-found c =
    sym (ap (rule_by (λ row. row.1 == c.args.number))
    (drop_of_length-le c.rows-row-items.result.now {i = c.loop-row.row-index} c.loop-row-test.false))
    ∙ c.loop-row.invariant

pub returns-clause-none : goal.returns-clause-none
returns-clause-none c none r is = no_rule c.args.number r (sym (returns-clause-found c)) is
