use Rattle.std.proofs.Common.{◌≡◌, ◌++◌, map, take}
use Rattle.acpi_write.specs.Encoded.{encoded_length}
use Rattle.acpi_write.specs.Views.{table_value}
use Rattle.acpi_write.proofs.placing.append_lengths.Given as goal

-- the lengths of the tables so far
abbrev pub invariant-loop-table : goal.invariant-loop-table
invariant-loop-table l =
    l.lengths.items ≡ l.fn.lengths.items ++ map (λ t. encoded_length (table_value t)) (take l.table-index l.tables)
