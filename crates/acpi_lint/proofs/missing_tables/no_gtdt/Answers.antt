use Rattle.std.proofs.Common.{[], ◌≡◌, false, rules, true}
use Rattle.std.specs.Option.{is_some}
use Rattle.acpi_rules.specs.Rows.{IsBroken, row_said}
use Rattle.acpi_lint.specs.Rules.Entries.{alone}
use Rattle.acpi_lint.specs.Slots.{first_of_further}
use Rattle.acpi_lint.specs.declared.further_table.FurtherTable.TheVariants as further
use Rattle.acpi_lint.specs.declared.rows.madt.TheConstants.{NEEDS_GTDT}
use Rattle.acpi_lint.proofs.CollectedNumbers.{each_ok}
use Rattle.acpi_lint.proofs.MissingTables.{found_listed, found_unlisted}
use Rattle.acpi_lint.proofs.missing_tables.no_gtdt.Goals as goal

pub returns-then-is_some : goal.returns-then-is_some
returns-then-is_some c = λ m p are.
    let some : is_some (first_of_further c.args.firsts.now further.Gtdt) ≡ true = search rules in
    found_listed m p _ (IsBroken (row_said NEEDS_GTDT) (alone c.args.madt.now)) _ some (are.further further.Gtdt)

pub returns : goal.returns
returns c =
    let none : is_some (first_of_further c.args.firsts.now further.Gtdt) ≡ false = search rules in
    let table : c.new.result.bytes.now ≡ c.args.madt.now = search rules in
    let other : c.new-2.result.bytes.now ≡ [] = search rules in
    each_ok c.first_finding.result
    (λ found least. λ m p are.
    found_unlisted m p _ (IsBroken (row_said NEEDS_GTDT) (alone c.args.madt.now)) _ found none
    (are.further further.Gtdt)
    (rw (table, other) at least))
    c.first_finding.ensures.found
