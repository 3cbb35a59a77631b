use Rattle.std.proofs.Common.{ℕ}
use Rattle.std.specs.Prelude.{◌↔◌, Contains}
use Rattle.acpi_lint.proofs.StructureRanges.{IsPassedAddress}
use Rattle.acpi_lint.proofs.structures.further_addresses.Given as goal

-- the addresses that the slots list that were passed
abbrev pub invariant-loop-slot : goal.invariant-loop-slot
invariant-loop-slot l = (a : ℕ) → Contains l.addresses.items a ↔ IsPassedAddress l.slots l.given l.slot-index a
