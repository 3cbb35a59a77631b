use Rattle.std.proofs.Common.{◌-◌, ◌/◌, length, map}
use Rattle.acpi_write.specs.Kinds.{table_of}
use Rattle.acpi_write.proofs.OldSets.Listing.{Completes}
use Rattle.acpi_write.proofs.table_reading.listed_tables.Given as goal

-- the tables found and those of the slots left are all tables
abbrev pub invariant-loop-slot : goal.invariant-loop-slot
invariant-loop-slot l =
    let root = l.set.root in
    Completes l.set.image.now root.bytes root.width l.slot ((length root.bytes - 36) / root.width - l.slot)
    (map table_of l.found.items)
