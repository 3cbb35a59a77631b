-- The numbers of the kinds of answers.
use Rattle.std.specs.Prelude.{ℕ}
use Rattle.acpi_c.specs.declared.kind.AnswerKind.{AnswerKind}
use Rattle.acpi_c.specs.declared.kind.AnswerKind.TheVariants as kind

-- a kind's number, which never changes
abbrev pub kind_number : AnswerKind → ℕ
kind_number kind.Yes = 0
kind_number kind.No = 1
kind_number kind.OutOfMemory = 2
kind_number kind.BadSize = 3
kind_number kind.BadDefaultInputs = 4
kind_number kind.BadHotPlug = 5
kind_number kind.BadProcessors = 6
kind_number kind.BadStage = 7
kind_number kind.BadInputs = 8
kind_number kind.BadCode = 9
kind_number kind.PiecePastEnd = 10
kind_number kind.PiecesOverlap = 11
kind_number kind.BadLine = 12
kind_number kind.NoAddress = 13
kind_number kind.TextOverlap = 14
kind_number kind.TextPastEnd = 15
kind_number kind.TextTooLong = 16
kind_number kind.Unaligned = 17
kind_number kind.TableTooLong = 18
kind_number kind.PastEnd = 19
kind_number kind.NeedsLow = 20
