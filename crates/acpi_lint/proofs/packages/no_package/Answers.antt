use Rattle.std.proofs.Common.{◌≡◌, rules}
use Rattle.acpi_lint.proofs.OuterNodes.{outside_leaves}
use Rattle.acpi_lint.proofs.packages.no_package.Goals as goal

pub first_outside-requires-clause-placed : goal.first_outside-requires-clause-placed
first_outside-requires-clause-placed c =
    let leaves : c.deref-2.result.now ≡ c.in_ok-leaves.leaves.items = search rules in
    rw (← leaves) at c.in_ok-leaves.ensures.placed

pub returns : goal.returns
returns c =
    let nodes : c.deref.result.now ≡ c.in_ok-nodes.nodes.items = search rules in
    let leaves : c.deref-2.result.now ≡ c.in_ok-leaves.leaves.items = search rules in
    outside_leaves c.args.pptt.now c.in_ok-nodes.nodes.items c.in_ok-leaves.leaves.items c.first_outside.result
    c.in_ok-nodes.ensures.same c.in_ok-leaves.ensures.all (rw (nodes, leaves) at c.first_outside.ensures)
