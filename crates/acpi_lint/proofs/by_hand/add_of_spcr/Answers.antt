use Rattle.acpi_base.specs.Madt.{madt_contents}
use Rattle.acpi_lint.specs.RowGroups.{OfTable}
use Rattle.acpi_lint.specs.Rules.Broken.{OfMadt}
use Rattle.acpi_lint.specs.Rules.SpcrAdvice.{IsGsiUnserved, IsNameOpen}
use Rattle.acpi_lint.specs.declared.further_table.FurtherTable.TheVariants as further
use Rattle.acpi_lint.specs.declared.further_table.RowTable.TheVariants.{Further}
use Rattle.acpi_lint.specs.declared.rule.Rule.TheVariants as rule
use Rattle.acpi_lint.proofs.ByHand.{none_added}
use Rattle.acpi_lint.proofs.CollectedNumbers.{each_ok}
use Rattle.acpi_lint.proofs.OfTables.{both_there, first_missing, madt_lifts, not_there, second_missing, table_lifts, there}
use Rattle.acpi_lint.proofs.by_hand.add_of_spcr.Goals as goal

pub returns-in_default-clause-adds : goal.returns-in_default-clause-adds
returns-in_default-clause-adds c = λ m are. λ done before.
    let q = c.args.policy.now in
    let Of = OfTable (Further further.Spcr) m q in
    let found = c.args.found.now.items in
    let lifts = table_lifts (Further further.Spcr) m q c.further.result are c.further.ensures in
    none_added m q rule.SpcrGsi found
    (first_missing Of (λ whole. whole) (OfMadt m q) (IsGsiUnserved q) lifts c.in_default.is) _
    (none_added m q rule.SpcrName found (not_there Of (λ whole. whole) IsNameOpen lifts c.in_default.is) done before)

pub returns-in_default-madt-clause-adds : goal.returns-in_default-madt-clause-adds
returns-in_default-madt-clause-adds c = λ m are. λ done before.
    let q = c.args.policy.now in
    let Of = OfTable (Further further.Spcr) m q in
    let lifts = table_lifts (Further further.Spcr) m q c.further.result are c.further.ensures in
    none_added m q rule.SpcrGsi _
    (second_missing Of (λ whole. whole) (OfMadt m q) madt_contents (IsGsiUnserved q) lifts c.in-Some.is
    (madt_lifts m q c.madt.result are c.madt.ensures) c.in_default-madt.is) _
    (c.in_ok-add.ensures.adds m q
    (there Of (λ whole. whole) IsNameOpen c.name_open.result lifts c.in-Some.is c.name_open.ensures) done before)

pub returns-clause-adds : goal.returns-clause-adds
returns-clause-adds c =
    each_ok c.add-2.result
    (λ _ last. λ m are. λ done before.
    let q = c.args.policy.now in
    let Of = OfTable (Further further.Spcr) m q in
    let lifts = table_lifts (Further further.Spcr) m q c.further.result are c.further.ensures in
    last m q
    (both_there Of (λ whole. whole) (OfMadt m q) madt_contents (IsGsiUnserved q) c.gsi_unserved.result lifts
    c.in-Some.is (madt_lifts m q c.madt.result are c.madt.ensures) c.in-Some-madt.is c.gsi_unserved.ensures) _
    (c.in_ok-add.ensures.adds m q
    (there Of (λ whole. whole) IsNameOpen c.name_open.result lifts c.in-Some.is c.name_open.ensures) done before))
    c.add-2.ensures.adds
