use Rattle.acpi_arguments.proofs.FaultWords.{is_read, read_is_written}
use Rattle.acpi_arguments.proofs.words.fault_words_are_texts.Goals as goal

pub returns : goal.returns
returns c = λ text w. (read_is_written text w, λ is. is_read text w is.0 is.1)
