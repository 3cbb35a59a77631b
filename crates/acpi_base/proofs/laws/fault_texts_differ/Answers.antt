use Rattle.acpi_base.proofs.Texts.FaultTexts.{texts_differ}
use Rattle.acpi_base.proofs.laws.fault_texts_differ.Goals as goal

pub returns : goal.returns
returns c = texts_differ
