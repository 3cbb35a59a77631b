use Rattle.std.proofs.Common.{◌≡◌, false}
use Rattle.std.proofs.Math.ListN.{take}
use Rattle.std.specs.List.{list_any}
use Rattle.acpi_arguments.specs.Printable.{hidden_ranges, is_within}
use Rattle.acpi_arguments.proofs.printable.is_hidden.Given as goal

abbrev pub invariant-loop-range : goal.invariant-loop-range
invariant-loop-range l = list_any (is_within l.fn.character) (take l.range-index hidden_ranges) ≡ false
