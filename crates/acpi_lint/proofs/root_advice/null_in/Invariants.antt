use Rattle.acpi_lint.proofs.RootSlots.{AreUsedBelow}
use Rattle.acpi_lint.proofs.root_advice.null_in.Given as goal

-- no slot before this one is 0
abbrev pub invariant-loop-slot : goal.invariant-loop-slot
invariant-loop-slot l = AreUsedBelow l.root.bytes l.root.width l.slot
