use Rattle.acpi_lint.specs.RowGroups.{OfTable}
use Rattle.acpi_lint.specs.Rules.McfgAdvice.{IsEcamOverlap}
use Rattle.acpi_lint.specs.declared.further_table.FurtherTable.TheVariants as further
use Rattle.acpi_lint.specs.declared.further_table.RowTable.TheVariants.{Further}
use Rattle.acpi_lint.specs.declared.rule.Rule.TheVariants as rule
use Rattle.acpi_lint.proofs.ByHand.{none_added}
use Rattle.acpi_lint.proofs.CollectedNumbers.{each_ok}
use Rattle.acpi_lint.proofs.OfTables.{not_there, table_lifts, there}
use Rattle.acpi_lint.proofs.by_hand.add_of_mcfg.Goals as goal

pub returns-in_default-clause-adds : goal.returns-in_default-clause-adds
returns-in_default-clause-adds c = λ m q are. λ done before.
    let lifts = table_lifts (Further further.Mcfg) m q c.further.result are c.further.ensures in
    none_added m q rule.EcamOverlap c.args.found.now.items
    (not_there (OfTable (Further further.Mcfg) m q) (λ whole. whole) IsEcamOverlap lifts c.in_default.is)
    done before

pub returns-clause-adds : goal.returns-clause-adds
returns-clause-adds c =
    each_ok c.add.result
    (λ _ last. λ m q are. λ done before.
    let lifts = table_lifts (Further further.Mcfg) m q c.further.result are c.further.ensures in
    last m q
    (there (OfTable (Further further.Mcfg) m q) (λ whole. whole) IsEcamOverlap c.in_ok-ecam_overlap.field-0 lifts
    c.in-Some.is c.in_ok-ecam_overlap.ensures) _ before)
    c.add.ensures.adds
