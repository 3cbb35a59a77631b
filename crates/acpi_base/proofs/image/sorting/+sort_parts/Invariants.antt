use Rattle.acpi_base.proofs.image.sorting.+sort_parts.Given as goal

abbrev pub decreases-sort_parts : goal.decreases-sort_parts
decreases-sort_parts l = l.partitions
