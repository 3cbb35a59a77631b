use Rattle.acpi_base.specs.declared.table_kind.TableKind.TheVariants as kind
use Rattle.acpi_lint.specs.RowGroups.{OfTable}
use Rattle.acpi_lint.specs.Rules.GicAdvice.{IsGicrTooSmall}
use Rattle.acpi_lint.specs.Rules.MissingTables.{IsNoGtdt}
use Rattle.acpi_lint.specs.declared.further_table.RowTable.TheVariants.{Kind}
use Rattle.acpi_lint.specs.declared.rule.Rule.TheVariants as rule
use Rattle.acpi_lint.proofs.ByHand.{none_added}
use Rattle.acpi_lint.proofs.CollectedNumbers.{each_ok}
use Rattle.acpi_lint.proofs.OfTables.{table_lifts, not_there, there}
use Rattle.acpi_lint.proofs.by_hand.add_of_madt.Goals as goal

pub returns-in_default-clause-adds : goal.returns-in_default-clause-adds
returns-in_default-clause-adds c = λ m q are. λ done before.
    let found = c.args.found.now.items in
    let Of = OfTable (Kind kind.Madt) m q in
    let lifts = table_lifts (Kind kind.Madt) m q c.madt.result are c.madt.ensures in
    none_added m q rule.NoGtdt found (not_there Of (λ whole. whole) (IsNoGtdt m q.rsdp) lifts c.in_default.is) _
    (none_added m q rule.GicrTooSmall found (not_there Of (λ whole. whole) IsGicrTooSmall lifts c.in_default.is)
    done before)

pub returns-clause-adds : goal.returns-clause-adds
returns-clause-adds c =
    each_ok c.add-2.result
    (λ _ last. λ m q are. λ done before.
    let Of = OfTable (Kind kind.Madt) m q in
    let lifts = table_lifts (Kind kind.Madt) m q c.madt.result are c.madt.ensures in
    last m q
    (there Of (λ whole. whole) (IsNoGtdt m q.rsdp) c.in_ok-no_gtdt.field-0 lifts c.in-Some.is
    (c.in_ok-no_gtdt.ensures m q.rsdp are.firsts)) _
    (c.in_ok-add.ensures.adds m q
    (there Of (λ whole. whole) IsGicrTooSmall c.in_ok-gicr_too_small.field-0 lifts c.in-Some.is
    c.in_ok-gicr_too_small.ensures) _ before))
    c.add-2.ensures.adds
