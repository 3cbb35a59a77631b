use Rattle.acpi_base.specs.Entries.{entries_read_by}
use Rattle.acpi_base.specs.Pptt.{pptt_entry, pptt_contents}
use Rattle.acpi_check.specs.EntryPlaces.{is_node, is_cache, is_resource}
use Rattle.acpi_check.proofs.NodeLinks.KindPlaces.{IsGathering}
use Rattle.acpi_check.proofs.references.places_of.Given as goal

-- the offsets so far, with those of the entries left, are the table's
abbrev pub invariant-loop-at : goal.invariant-loop-at
invariant-loop-at l =
    IsGathering is_node (pptt_contents l.fn.pptt).entries (entries_read_by pptt_entry l.at-iterator.entries.entries)
    l.places.nodes
    × IsGathering is_cache (pptt_contents l.fn.pptt).entries (entries_read_by pptt_entry l.at-iterator.entries.entries)
    l.places.caches
    × IsGathering is_resource (pptt_contents l.fn.pptt).entries
    (entries_read_by pptt_entry l.at-iterator.entries.entries) l.places.resources
