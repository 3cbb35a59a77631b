use Rattle.std.specs.Str.Iter.{chars_rest}
use Rattle.std.specs.String.{string_bytes}
use Rattle.acpi_arguments.proofs.PrintableTexts.{IsBegun}
use Rattle.acpi_arguments.proofs.printable.printable_text.Given as goal

abbrev pub invariant-loop-character : goal.invariant-loop-character
invariant-loop-character l = IsBegun l.fn.text (string_bytes l.printed) (chars_rest l.character-iterator) l.room
