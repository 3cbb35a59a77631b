use Rattle.acpi_lint.proofs.StructureRanges.{AreStructuresBefore}
use Rattle.acpi_lint.proofs.structures.structures.Given as goal

-- these are the structures of the kinds below 4, and the tables at the addresses before this one
abbrev pub invariant-loop-address : goal.invariant-loop-address
invariant-loop-address l = AreStructuresBefore l.image l.rsdp l.address-items l.address-index l.given.items
