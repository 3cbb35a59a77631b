use Rattle.std.proofs.Common.{◌∙◌, map}
use Rattle.acpi_rules.specs.Cases.{case_value}
use Rattle.acpi_rules.specs.Indexes.{typed_sites}
use Rattle.acpi_rules.specs.Sites.{whole_table}
use Rattle.acpi_rules.specs.Terms.{tables_value}
use Rattle.acpi_rules.proofs.CasesOfType.{nothing_given, same_given, typed_kind}
use Rattle.acpi_rules.proofs.given.GivenByType.new.Goals as goal

pub returns-then-is_empty : goal.returns-then-is_empty
returns-then-is_empty c =
    let whole = whole_table c.args.tables.now.table.bytes.now in
    let o = c.args.of_type.now in
    c.none.ensures
    ∙ nothing_given (tables_value c.args.tables.now) o.kind c.cases_of_type-cases.result.now
    (map case_value c.args.cases.now) (typed_sites whole o) c.if-is_empty.ensures c.cases_of_type-cases.ensures
    (typed_kind whole o.kind o.listed.items)

pub returns : goal.returns
returns c =
    let whole = whole_table c.args.tables.now.table.bytes.now in
    let o = c.args.of_type.now in
    rw c.deref.ensures.value
    (same_given (tables_value c.args.tables.now) o.kind (map case_value c.cases_of_type-cases.result.now)
    (map case_value c.args.cases.now) (typed_sites whole o) c.cases_of_type-cases.ensures
    (typed_kind whole o.kind o.listed.items))
