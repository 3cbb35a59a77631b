use Rattle.std.proofs.Common.{◌∙◌, sym}
use Rattle.std.proofs.lemmas.List.Folds.{list_all-map, list_all_at}
use Rattle.acpi_rules.specs.Rows.{guard_holds, guard_value}
use Rattle.acpi_rules.specs.Terms.{tables_value}
use Rattle.acpi_rules.proofs.row.quick_guards_hold.Goals as goal

pub returns-then-not-guard_holds : goal.returns-then-not-guard_holds
returns-then-not-guard_holds c = λ failed.
    list_all-map (guard_holds (tables_value c.args.tables.now)) guard_value c.args.guards.now
    ∙ list_all_at (λ g. guard_holds (tables_value c.args.tables.now) (guard_value g)) c.args.guards.now
    c.loop-guard.guard-index _ c.loop-guard-test.true (sym c.if-not-guard_holds.ensures)
