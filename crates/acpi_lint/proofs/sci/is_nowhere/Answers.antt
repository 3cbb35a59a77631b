use Rattle.acpi_lint.proofs.sci.is_nowhere.Goals as goal

pub returns-then-is_unserved : goal.returns-then-is_unserved
returns-then-is_unserved c = (
  λ true. (c.is_unserved.ensures.0 c.if-is_unserved.true, c.is_madt_well_formed.ensures.0 true),
  λ (unserved, well_formed). c.is_madt_well_formed.ensures.1 well_formed,
)
