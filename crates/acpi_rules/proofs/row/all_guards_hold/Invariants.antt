use Rattle.std.proofs.Common.{◌≡◌, drop, map}
use Rattle.std.specs.List.{list_all}
use Rattle.acpi_rules.specs.Rows.{guard_holds, guard_value}
use Rattle.acpi_rules.specs.Terms.{tables_value}
use Rattle.acpi_rules.proofs.row.all_guards_hold.Given as goal

-- those before hold
abbrev pub invariant-loop-guard : goal.invariant-loop-guard
invariant-loop-guard l =
    list_all (guard_holds (tables_value l.tables)) (map guard_value (drop l.guard-index l.guards))
    ≡ list_all (guard_holds (tables_value l.tables)) (map guard_value l.guards)
