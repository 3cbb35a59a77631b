use Rattle.std.proofs.Common.{ltb, rules, arith}
use Rattle.std.proofs.lemmas.List.Sorted.{IsPartitionPoint-from_clause}
use Rattle.acpi_rules.specs.declared.numbered.Numbered.{Numbered}
use Rattle.acpi_rules.proofs.KnownNumbers.{parted_by, sorted_below}
use Rattle.acpi_lint.proofs.OuterNodes.{first_there, none_there}
use Rattle.acpi_lint.proofs.packages.index_of.Goals as goal
use Rattle.acpi_lint.proofs.packages.index_of.Goals.{else-before-nodes-via-then-before-nodes+else-nodes-before, else-before-nodes-via-else-before-nodes}

pub returns-then-nodes-before : goal.returns-then-nodes-before
returns-then-nodes-before c =
    let nodes = c.args.nodes.now in
    let point = IsPartitionPoint-from_clause (λ (g : Numbered). ltb g.number c.args.offset) _ _
    c.partition_point-before.ensures.partitioned (sorted_below nodes c.args.offset c.requires)
    (λ a r q k. search rules) in
    first_there nodes c.args.offset c.partition_point-before.result
    (parted_by nodes c.args.offset c.partition_point-before.result c.requires
    c.partition_point-before.ensures.bound point)
    c.if-before-nodes.true c.if-nodes-before.true

pub returns : goal.returns
returns c =
    let nodes = c.args.nodes.now in
    let point = IsPartitionPoint-from_clause (λ (g : Numbered). ltb g.number c.args.offset) _ _
    c.partition_point-before.ensures.partitioned (sorted_below nodes c.args.offset c.requires)
    (λ a r q k. search rules) in
    none_there nodes c.args.offset c.partition_point-before.result
    (parted_by nodes c.args.offset c.partition_point-before.result c.requires
    c.partition_point-before.ensures.bound point)
    (elim c.else-before-nodes.branch [
      | else-before-nodes-via-then-before-nodes+else-nodes-before w ↦ λ within. w.if-nodes-before.false
      | else-before-nodes-via-else-before-nodes w ↦ λ within. absurd (omega (arith, within, w.if-before-nodes.false))
    ])
