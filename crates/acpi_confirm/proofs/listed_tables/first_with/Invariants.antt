use Rattle.std.proofs.Common.{None}
use Rattle.acpi_confirm.specs.Roots.{IsFirstSoFar}
use Rattle.acpi_confirm.proofs.listed_tables.first_with.Given as goal

-- no slot before this one lists such a header
abbrev pub invariant-loop-slot : goal.invariant-loop-slot
invariant-loop-slot l = IsFirstSoFar l.image l.root.bytes.now l.root.width l.slot l.signature None
