use Rattle.acpi_lint.proofs.HeaderTexts.{NoneBefore}
use Rattle.acpi_lint.proofs.header_advice.header_text.Given as goal

-- no slot before this one lists a header with an odd text
abbrev pub invariant-loop-slot : goal.invariant-loop-slot
invariant-loop-slot l = NoneBefore l.tables.slots.items l.slot-index
