use Rattle.std.proofs.Common.{◌≡◌, map, take}
use Rattle.std.specs.List.{All}
use Rattle.acpi_write.specs.Kinds.{HasFirsts, table_of}
use Rattle.acpi_write.specs.SetValues.{values_of}
use Rattle.acpi_write.specs.Views.{table_value, IsShaped, IsShort}
use Rattle.acpi_write.proofs.table_reading.table_values.Given as goal

-- what was found is what the tables so far say
abbrev pub invariant-loop-k : goal.invariant-loop-k
invariant-loop-k l =
    let tables = map table_of l.tables in
    HasFirsts (take l.k tables) l.firsts
    × (map table_value l.found.items ≡ values_of (take l.k tables))
    × All IsShaped l.found.items
    × All IsShort l.found.items
