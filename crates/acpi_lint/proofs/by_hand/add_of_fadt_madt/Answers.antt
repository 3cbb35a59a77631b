use Rattle.acpi_base.specs.Madt.{madt_contents}
use Rattle.acpi_lint.specs.Rules.Broken.{OfFadt, OfMadt}
use Rattle.acpi_lint.specs.Rules.FadtAdvice.{IsSciNowhere}
use Rattle.acpi_lint.specs.declared.rule.Rule.TheVariants as rule
use Rattle.acpi_lint.proofs.ByHand.{none_added}
use Rattle.acpi_lint.proofs.CollectedNumbers.{each_ok}
use Rattle.acpi_lint.proofs.OfTables.{fadt_lifts, madt_lifts, first_missing, second_missing, both_there}
use Rattle.acpi_lint.proofs.by_hand.add_of_fadt_madt.Goals as goal

pub returns-in_default-clause-adds : goal.returns-in_default-clause-adds
returns-in_default-clause-adds c = λ m are.
    let q = c.args.policy.now in
    none_added m q rule.SciNowhere c.args.found.now.items
    (first_missing (OfFadt m q) (λ whole. whole) (OfMadt m q) (IsSciNowhere q)
    (fadt_lifts m q c.fadt.result are c.fadt.ensures) c.in_default.is)

pub returns-in_default-madt-clause-adds : goal.returns-in_default-madt-clause-adds
returns-in_default-madt-clause-adds c = λ m are.
    let q = c.args.policy.now in
    none_added m q rule.SciNowhere c.args.found.now.items
    (second_missing (OfFadt m q) (λ whole. whole) (OfMadt m q) madt_contents (IsSciNowhere q)
    (fadt_lifts m q c.fadt.result are c.fadt.ensures) c.in-Some.is
    (madt_lifts m q c.madt.result are c.madt.ensures) c.in_default-madt.is)

pub returns-clause-adds : goal.returns-clause-adds
returns-clause-adds c =
    each_ok c.add.result
    (λ _ last. λ m are.
    let q = c.args.policy.now in
    last m q
    (both_there (OfFadt m q) (λ whole. whole) (OfMadt m q) madt_contents (IsSciNowhere q) c.sci_nowhere.result
    (fadt_lifts m q c.fadt.result are c.fadt.ensures) c.in-Some.is
    (madt_lifts m q c.madt.result are c.madt.ensures) c.in-Some-madt.is c.sci_nowhere.ensures))
    c.add.ensures.adds
