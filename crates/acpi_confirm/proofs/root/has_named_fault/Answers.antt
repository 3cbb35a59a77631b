use Rattle.std.proofs.lemmas.Bool.{false≢true}
use Rattle.acpi_confirm.proofs.root.has_named_fault.Goals as goal

pub returns-in-None : goal.returns-in-None
returns-in-None c = (
  λ yes. absurd (false≢true yes),
  λ fault. absurd (c.in-None.ensures.found c.args.at fault.0 fault.1),
)
