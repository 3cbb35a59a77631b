use Rattle.std.proofs.Common.{◌≡◌, Some, false, rules, true}
use Rattle.std.specs.Option.{is_some}
use Rattle.acpi_base.specs.declared.table_kind.TableKind.TheVariants as kind
use Rattle.acpi_lint.specs.Slots.{first_of}
use Rattle.acpi_lint.proofs.MissingTables.{IsNoPlace, found_listed, found_unlisted, no_place}
use Rattle.acpi_lint.proofs.missing_tables.hmat_alone.Goals as goal

pub returns-then-is_some : goal.returns-then-is_some
returns-then-is_some c = λ m p are.
    let some : is_some (first_of c.args.firsts.now kind.Srat) ≡ true = search rules in
    found_listed m p _ IsNoPlace _ some (are.kinds kind.Srat)

pub returns : goal.returns
returns c = λ m p are.
    let none : is_some (first_of c.args.firsts.now kind.Srat) ≡ false = search rules in
    found_unlisted m p _ IsNoPlace _ (Some (record { at = 0; other = 0; point = 0 })) none (are.kinds kind.Srat)
    no_place
