use Rattle.acpi_arguments.proofs.PrintableTexts.{ArePrintedTo}
use Rattle.acpi_arguments.proofs.printable.printable_arguments.Given as goal

abbrev pub invariant-loop-word : goal.invariant-loop-word
invariant-loop-word l = ArePrintedTo l.fn.words l.printed.items l.word-index
