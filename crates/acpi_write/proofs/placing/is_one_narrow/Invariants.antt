use Rattle.std.proofs.Common.{◌≡◌, map, drop}
use Rattle.std.specs.List.{list_any}
use Rattle.acpi_write.specs.Placed.{is_narrow}
use Rattle.acpi_write.specs.Views.{table_value}
use Rattle.acpi_write.proofs.placing.is_one_narrow.Given as goal

-- no table so far is narrow
abbrev pub invariant-loop-table : goal.invariant-loop-table
invariant-loop-table l =
    list_any is_narrow (map table_value (drop l.table-index l.tables)) ≡ list_any is_narrow (map table_value l.tables)
