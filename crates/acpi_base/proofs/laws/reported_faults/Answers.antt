use Rattle.acpi_base.proofs.FirstOfCode.{none_reported, first_is_reported, reported_are_faults}
use Rattle.acpi_base.proofs.laws.reported_faults.Goals as goal

pub returns-clause-none : goal.returns-clause-none
returns-clause-none c = none_reported

pub returns-clause-first : goal.returns-clause-first
returns-clause-first c = first_is_reported

pub returns-clause-faults : goal.returns-clause-faults
returns-clause-faults c = reported_are_faults
