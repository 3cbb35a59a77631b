use Rattle.acpi_base.specs.declared.table_kind.TableKind.TheVariants as kind
use Rattle.acpi_lint.specs.RowGroups.{OfTable}
use Rattle.acpi_lint.specs.Rules.CacheTypes.{IsSameCacheType}
use Rattle.acpi_lint.specs.Rules.Hierarchy.{IsNoPackage}
use Rattle.acpi_lint.specs.declared.further_table.RowTable.TheVariants.{Kind}
use Rattle.acpi_lint.specs.declared.rule.Rule.TheVariants as rule
use Rattle.acpi_lint.proofs.ByHand.{none_added}
use Rattle.acpi_lint.proofs.CollectedNumbers.{each_ok}
use Rattle.acpi_lint.proofs.OfTables.{table_lifts, not_there, there}
use Rattle.acpi_lint.proofs.by_hand.add_of_pptt.Goals as goal

pub returns-in_default-clause-adds : goal.returns-in_default-clause-adds
returns-in_default-clause-adds c = λ m q are. λ done before.
    let found = c.args.found.now.items in
    let lifts = table_lifts (Kind kind.Pptt) m q c.long.result are c.long.ensures in
    none_added m q rule.SameCacheType found
    (not_there (OfTable (Kind kind.Pptt) m q) (λ whole. whole) IsSameCacheType lifts c.in_default.is) _
    (none_added m q rule.NoPackage found
    (not_there (OfTable (Kind kind.Pptt) m q) (λ whole. whole) IsNoPackage lifts c.in_default.is)
    done before)

pub returns-clause-adds : goal.returns-clause-adds
returns-clause-adds c =
    each_ok c.add-2.result
    (λ _ last. λ m q are. λ done before.
    let lifts = table_lifts (Kind kind.Pptt) m q c.long.result are c.long.ensures in
    last m q
    (there (OfTable (Kind kind.Pptt) m q) (λ whole. whole) IsSameCacheType c.in_ok-same_cache_type.field-0 lifts
    c.in-Some.is c.in_ok-same_cache_type.ensures) _
    (c.in_ok-add.ensures.adds m q
    (there (OfTable (Kind kind.Pptt) m q) (λ whole. whole) IsNoPackage c.in_ok-no_package.field-0 lifts c.in-Some.is
    c.in_ok-no_package.ensures) _ before))
    c.add-2.ensures.adds
