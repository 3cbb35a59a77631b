use Rattle.std.proofs.Common.{◌∙◌}
use Rattle.std.proofs.lemmas.List.{get_or_default}
use Rattle.acpi_check.proofs.NodeLinks.LinkedNodes.{nodes_rise, ready, cycle_found, has_offset}
use Rattle.acpi_check.proofs.chains.first_cycle.Goals as goal
use Rattle.acpi_check.proofs.chains.first_cycle.Goals.{then-do_all_lead-via-then-do_all_lead, then-do_all_lead-via-else-do_all_lead+then-do_all_lead-2}

pub parents_of-requires : goal.parents_of-requires
parents_of-requires c = nodes_rise c.args.chain c.args.pptt.now c.in_ok-nodes.nodes c.in_ok-nodes.ensures

pub first_stray-requires : goal.first_stray-requires
first_stray-requires c =
    rw (c.deref.ensures.value) (ready c.args.chain c.args.pptt.now c.in_ok-nodes.nodes c.in_ok-parents.parents.items
    c.in_ok-nodes.ensures c.in_ok-parents.ensures)

pub returns-in-None : goal.returns-in-None
returns-in-None c =
    let e = rw c.deref.ensures.value at c.in_ok-found.ensures in
    rw c.in-None.is at (cycle_found c.args.chain c.args.pptt.now c.in_ok-nodes.nodes c.in_ok-parents.parents.items
    c.in_ok-nodes.ensures c.in_ok-parents.ensures c.in_ok-found.found e.none e.first e.within)

pub returns : goal.returns
returns c =
    let nodes = c.in_ok-nodes.nodes in
    let parents = c.in_ok-parents.parents.items in
    let node = c.in-Round.node in
    let e = rw c.deref.ensures.value at c.in_ok-found.ensures in
    let first = rw c.in-Round.is at e.first in
    let cycle = rw c.in-Round.is at
    (cycle_found c.args.chain c.args.pptt.now nodes parents c.in_ok-nodes.ensures c.in_ok-parents.ensures
    c.in_ok-found.found e.none e.first e.within) in
    let inside = has_offset c.args.chain c.args.pptt.now nodes parents c.in_ok-nodes.ensures c.in_ok-parents.ensures
    node c.in-Round.lead c.in-Round.round first in
    let place = c.index.ensures ∙ get_or_default nodes.offsets.items node c.index.result.now 0 inside in
    (c.code_of.ensures, rw place cycle)

pub returns-then-do_all_lead : goal.returns-then-do_all_lead
returns-then-do_all_lead c =
    elim c.then-do_all_lead.branch [
      | then-do_all_lead-via-then-do_all_lead w ↦ c.do_all_lead.ensures w.if-do_all_lead.true
      | then-do_all_lead-via-else-do_all_lead+then-do_all_lead-2 w ↦
          w.do_all_lead-else-do_all_lead.ensures w.if-do_all_lead-2.true
    ]
