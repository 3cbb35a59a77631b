use Rattle.acpi_write.specs.Views.{set_value}
use Rattle.acpi_write.proofs.SetParts.PartsAppended.{AreFirstParts}
use Rattle.acpi_write.proofs.set_bytes.set_bytes.Given as goal

-- the parts before the index were appended
abbrev pub invariant-loop-k : goal.invariant-loop-k
invariant-loop-k l = AreFirstParts l.bytes.items l.places (set_value l.value) l.base l.k
