use Rattle.acpi_base.proofs.text.fault_parsing.+spells.Given as goal

abbrev pub decreases-spells : goal.decreases-spells
decreases-spells l = l.number
