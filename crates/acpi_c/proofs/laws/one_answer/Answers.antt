use Rattle.acpi_c.proofs.Answers as law
use Rattle.acpi_c.proofs.laws.one_answer.Goals as goal

pub returns : goal.returns
returns c = law.one_answer
