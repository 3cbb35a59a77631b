use Rattle.std.proofs.Common.{◌∷◌, [], map, refl, sym, ◌∙◌, ap, ◌++◌}
use Rattle.std.proofs.lemmas.List.{append-nil, append_assoc}
use Rattle.acpi_rules.specs.Cases.{case_value}
use Rattle.acpi_rules.specs.Given.{all_given}
use Rattle.acpi_rules.specs.Terms.{tables_value}
use Rattle.acpi_rules.proofs.numbers.numbers_in_order.Goals as goal

pub loop-given-init : goal.loop-given-init
loop-given-init c = rw (c.new-all.ensures.items, c.along-walked.ensures) refl

pub loop-given-preserved : goal.loop-given-preserved
loop-given-preserved c =
    let left = all_given (tables_value c.args.tables.now) (map case_value c.args.cases.now) c.first_walked.new.walked in
    ap (λ items. items ++ left) c.in_ok-push.ensures.items
    ∙ append_assoc c.loop-given.all.items (c.in-Some.given ∷ []) left
    ∙ ap (λ more. c.loop-given.all.items ++ more) (sym c.in-Some.ensures)
    ∙ c.loop-given.invariant

pub returns : goal.returns
returns c =
    sym (append-nil c.loop-given.all.items)
    ∙ ap (λ more. c.loop-given.all.items ++ more) (sym c.in_default.ensures.0)
    ∙ c.loop-given.invariant
