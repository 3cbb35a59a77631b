use Rattle.std.proofs.Common.{rules, sym}
use Rattle.std.proofs.lemmas.List.Sorted.{IsPartitionPoint-from_clause}
use Rattle.acpi_lint.specs.Hierarchy.{none}
use Rattle.acpi_lint.proofs.NearestCaches.{is_below, no_pair, pair_by_node, pair_by_place, pairs_below, parted_at}
use Rattle.acpi_lint.proofs.cache_types.has_pair.Goals as goal

pub returns-then-pairs-before : goal.returns-then-pairs-before
returns-then-pairs-before c =
    let pairs = c.args.pairs.now in
    let point = IsPartitionPoint-from_clause (is_below c.args.node c.args.offset) _ _
    c.partition_point-before.ensures.partitioned (pairs_below pairs c.args.node c.args.offset c.requires)
    (λ a r q k. search rules) in
    pair_by_place pairs c.args.node c.args.offset c.partition_point-before.result none
    (parted_at pairs c.args.node c.args.offset c.partition_point-before.result c.requires
    c.partition_point-before.ensures.bound point)
    c.if-before-pairs.true c.if-pairs-before.true

pub returns-else-pairs-before : goal.returns-else-pairs-before
returns-else-pairs-before c =
    let pairs = c.args.pairs.now in
    let point = IsPartitionPoint-from_clause (is_below c.args.node c.args.offset) _ _
    c.partition_point-before.ensures.partitioned (pairs_below pairs c.args.node c.args.offset c.requires)
    (λ a r q k. search rules) in
    pair_by_node pairs c.args.node c.args.offset c.partition_point-before.result none
    (parted_at pairs c.args.node c.args.offset c.partition_point-before.result c.requires
    c.partition_point-before.ensures.bound point)
    c.if-before-pairs.true c.if-pairs-before.false

pub returns : goal.returns
returns c =
    let pairs = c.args.pairs.now in
    let point = IsPartitionPoint-from_clause (is_below c.args.node c.args.offset) _ _
    c.partition_point-before.ensures.partitioned (pairs_below pairs c.args.node c.args.offset c.requires)
    (λ a r q k. search rules) in
    sym (no_pair pairs c.args.node c.args.offset c.partition_point-before.result none
    (parted_at pairs c.args.node c.args.offset c.partition_point-before.result c.requires
    c.partition_point-before.ensures.bound point)
    c.if-before-pairs.false)
