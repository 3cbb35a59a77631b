use Rattle.std.proofs.Common.{ltb, arith, rules, sym}
use Rattle.std.proofs.lemmas.List.Sorted.{IsPartitionPoint-from_clause}
use Rattle.acpi_rules.specs.declared.numbered.Numbered.{Numbered}
use Rattle.acpi_rules.proofs.KnownNumbers.{found_nowhere, found_there, parted_by, sorted_below}
use Rattle.acpi_rules.proofs.known.first_of.Goals as goal
use Rattle.acpi_rules.proofs.known.first_of.Goals.{else-before-known-via-then-before-known+else-known-before, else-before-known-via-else-before-known}

pub returns-then-known-before : goal.returns-then-known-before
returns-then-known-before c =
    let known = c.args.known.now in
    let point = IsPartitionPoint-from_clause (λ (g : Numbered). ltb g.number c.args.number) _ _
    c.partition_point-before.ensures.partitioned (sorted_below known c.args.number c.requires)
    (λ a r q k. search rules) in
    sym (found_there known c.args.number c.partition_point-before.result (record { number = 0; at = 0; value = 0 })
    (parted_by known c.args.number c.partition_point-before.result c.requires
    c.partition_point-before.ensures.bound point)
    c.if-before-known.true c.if-known-before.true)

pub returns : goal.returns
returns c =
    let known = c.args.known.now in
    let point = IsPartitionPoint-from_clause (λ (g : Numbered). ltb g.number c.args.number) _ _
    c.partition_point-before.ensures.partitioned (sorted_below known c.args.number c.requires)
    (λ a r q k. search rules) in
    sym (found_nowhere known c.args.number c.partition_point-before.result (record { number = 0; at = 0; value = 0 })
    (parted_by known c.args.number c.partition_point-before.result c.requires
    c.partition_point-before.ensures.bound point)
    (elim c.else-before-known.branch [
      | else-before-known-via-then-before-known+else-known-before w ↦ λ inside. w.if-known-before.false
      | else-before-known-via-else-before-known w ↦ λ inside. absurd (omega (arith, w.if-before-known.false, inside))
    ]))
