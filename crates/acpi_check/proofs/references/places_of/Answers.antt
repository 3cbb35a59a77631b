use Rattle.acpi_base.specs.Pptt.{pptt_contents}
use Rattle.acpi_check.specs.EntryPlaces.{is_node, is_cache, is_resource}
use Rattle.acpi_check.proofs.NodeLinks.KindPlaces.{none_gathered, one_gathered, are_places}
use Rattle.acpi_check.proofs.references.places_of.Goals as goal

pub loop-at-init : goal.loop-at-init
loop-at-init c =
    rw (c.into_iter-at-iterator.ensures.into_iter_gives, c.entries-at-items.ensures.entries) (
      none_gathered is_node (pptt_contents c.args.pptt.now).entries c.new.result c.new.ensures,
      none_gathered is_cache (pptt_contents c.args.pptt.now).entries c.new-2.result c.new-2.ensures,
      none_gathered is_resource (pptt_contents c.args.pptt.now).entries c.new-3.result c.new-3.ensures,
    )

pub loop-at-preserved : goal.loop-at-preserved
loop-at-preserved c =
    let said = (pptt_contents c.args.pptt.now).entries in
    let i = rw c.in-Some.ensures.steps.0 at c.loop-at.invariant in
    let adds = c.in_ok-add_place.ensures in (
      one_gathered is_node said _ _ _ _ i.0 (rw c.kind_of.ensures at adds.nodes),
      one_gathered is_cache said _ _ _ _ i.1 (rw c.kind_of.ensures at adds.caches),
      one_gathered is_resource said _ _ _ _ i.2 (rw c.kind_of.ensures at adds.resources),
    )

pub returns : goal.returns
returns c =
    let i = rw c.in-None.ensures.steps.0 at c.loop-at.invariant in are_places c.args.pptt.now _ c.requires i.0 i.1 i.2
