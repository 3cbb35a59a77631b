use Rattle.std.proofs.Common.{◌∙◌, sym, ap}
use Rattle.std.specs.Str.{bytes_eq}
use Rattle.std.proofs.Math.ListN.{drop_of_length-le}
use Rattle.acpi_lint.specs.Rules.Rows.{rule_name, rule_named}
use Rattle.acpi_lint.proofs.RuleNumbers.{named_rows, row_after, row_here, rule_by}
use Rattle.acpi_lint.proofs.rule.Rule.from_name.Goals as goal

pub loop-row-init : goal.loop-row-init
loop-row-init c = named_rows c.args.name.now c.rows-row-items.result.now c.rows-row-items.ensures

pub loop-row-preserved : goal.loop-row-preserved
loop-row-preserved c =
    row_after (λ row. bytes_eq (rule_name row.0) c.args.name.now) c.rows-row-items.result.now c.loop-row.row-index _
    (rule_named c.args.name.now)
    c.loop-row-test.true c.loop-row.invariant
    (sym (ap (λ own. bytes_eq own c.args.name.now) c.name.ensures) ∙ sym c.eq.ensures ∙ c.if-eq.false)

pub returns-then-eq : goal.returns-then-eq
returns-then-eq c =
    row_here (λ row. bytes_eq (rule_name row.0) c.args.name.now) c.rows-row-items.result.now c.loop-row.row-index _
    (rule_named c.args.name.now)
    c.loop-row-test.true c.loop-row.invariant
    (sym (ap (λ own. bytes_eq own c.args.name.now) c.name.ensures) ∙ sym c.eq.ensures ∙ c.if-eq.true)

pub returns : goal.returns
returns c =
    sym (ap (rule_by (λ row. bytes_eq (rule_name row.0) c.args.name.now))
    (drop_of_length-le c.rows-row-items.result.now {i = c.loop-row.row-index} c.loop-row-test.false))
    ∙ c.loop-row.invariant
