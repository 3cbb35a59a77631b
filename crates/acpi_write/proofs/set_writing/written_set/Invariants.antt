use Rattle.acpi_write.specs.Views.{set_value}
use Rattle.acpi_write.proofs.SetParts.PartsInOrder.{IsPartialSet}
use Rattle.acpi_write.proofs.set_writing.written_set.Given as goal

-- the parts before the index were put in
abbrev pub invariant-loop-k : goal.invariant-loop-k
invariant-loop-k l = IsPartialSet l.image l.places (set_value l.value) l.base l.k
