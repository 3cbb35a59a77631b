use Rattle.std.proofs.lemmas.Bool.{false≢true}
use Rattle.acpi_confirm.proofs.Roots.{root_of_slot}
use Rattle.acpi_confirm.proofs.tables.is_listed.Goals as goal

pub returns-in-None : goal.returns-in-None
returns-in-None c = (
  λ yes. absurd (false≢true yes),
  λ slot. absurd (c.in-None.ensures.found slot.d slot.whole (root_of_slot slot)),
)
