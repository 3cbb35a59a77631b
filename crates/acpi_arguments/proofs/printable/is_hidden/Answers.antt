use Rattle.std.proofs.Common.{◌≡◌, false, refl, sym, ◌∙◌, arith, rules}
use Rattle.std.proofs.lemmas.List.Folds.{list_any_at}
use Rattle.std.specs.List.{list_any}
use Rattle.acpi_arguments.specs.Printable.{hidden_ranges, is_hidden, is_within}
use Rattle.acpi_arguments.proofs.PrintableTexts.{none_within}
use Rattle.acpi_arguments.proofs.printable.is_hidden.Goals as goal

pub loop-range-init : goal.loop-range-init
loop-range-init c = refl

pub returns-then-is_within : goal.returns-then-is_within
unfolding is_hidden
returns-then-is_within c =
    let here = sym c.is_within.ensures ∙ c.if-is_within.true in
    let i = c.loop-range.range-index in
    rw (list_any_at (is_within c.args.character) hidden_ranges i _ c.loop-range-test.true here) refl

pub loop-range-preserved : goal.loop-range-preserved
loop-range-preserved c =
    let here = sym c.is_within.ensures ∙ c.if-is_within.false in
    none_within c.args.character c.loop-range.range-index _ c.loop-range-test.true c.loop-range.invariant here

pub returns : goal.returns
unfolding is_hidden
returns c =
    let all : c.loop-range.range-index ≡ 25 = omega arith in
    let none : list_any (is_within c.args.character) hidden_ranges ≡ false = rw all at c.loop-range.invariant in
    rw none (search rules)
