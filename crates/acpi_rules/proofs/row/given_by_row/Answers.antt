use Rattle.std.proofs.Common.{◌≡◌, false, map, rules, true}
use Rattle.std.specs.List.{list_all}
use Rattle.std.proofs.lemmas.Bool.{both_ways}
use Rattle.acpi_base.proofs.Elements.{no_element}
use Rattle.acpi_rules.specs.Rows.{guard_holds, guard_value}
use Rattle.acpi_rules.specs.Terms.{tables_value}
use Rattle.acpi_rules.proofs.FormFindings.{each_ok}
use Rattle.acpi_rules.proofs.row.given_by_row.Goals as goal

pub returns-then-not-all_guards_hold : goal.returns-then-not-all_guards_hold
returns-then-not-all_guards_hold c = λ g.
    let none : list_all (guard_holds (tables_value c.args.tables.now)) (map guard_value c.args.row.now.2.now) ≡ false =
    search rules in (
      λ listed. absurd (no_element g (rw c.new.ensures.items at listed)),
      λ given. absurd (both_ways _ none given.0),
    )

pub returns : goal.returns
returns c =
    let all : list_all (guard_holds (tables_value c.args.tables.now)) (map guard_value c.args.row.now.2.now) ≡ true =
    search rules in
    each_ok c.counted.result
    (λ found same g. (λ listed. (all, (same g).0 listed), λ given. (same g).1 given.1)) c.counted.ensures
