use Rattle.acpi_base.proofs.Texts.Written.OneWritten.{one_written}
use Rattle.acpi_base.proofs.Texts.Written.Reading.{written_read}
use Rattle.acpi_base.proofs.laws.written_texts.Goals as goal

pub returns : goal.returns
returns c = record { read = written_read; one = one_written }
