use Rattle.acpi_lint.proofs.spcr.is_unserved.Goals as goal

pub returns-then-serves_none : goal.returns-then-serves_none
returns-then-serves_none c = (
  λ true. (c.serves_none.ensures.0 c.if-serves_none.true, c.is_madt_well_formed.ensures.0 true),
  λ (none, well_formed). c.is_madt_well_formed.ensures.1 well_formed,
)
