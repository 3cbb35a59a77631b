use Rattle.acpi_check.proofs.NodeLinks.OffsetsAdded.{AreAdded}
use Rattle.acpi_check.proofs.bit_set.BitSet.of.Given as goal

-- the numbers so far are in the set
abbrev pub invariant-loop-number : goal.invariant-loop-number
invariant-loop-number l = AreAdded l.fn.numbers l.number-index l.set
