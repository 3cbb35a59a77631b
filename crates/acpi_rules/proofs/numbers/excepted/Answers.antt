use Rattle.std.proofs.Common.{sym}
use Rattle.acpi_rules.specs.Numbers.{numbers_value}
use Rattle.acpi_rules.specs.Terms.{tables_value}
use Rattle.acpi_rules.proofs.FormFindings.{both_ok, excepted_as, no_cases, none_excepted, nothing_excepted}
use Rattle.acpi_rules.proofs.numbers.excepted.Goals as goal
use Rattle.acpi_rules.proofs.numbers.excepted.Goals.{then-is_empty-via-then-is_empty, then-is_empty-via-else-is_empty+then-not-gives_any}

pub returns-then-is_empty-clause-places : goal.returns-then-is_empty-clause-places
returns-then-is_empty-clause-places c =
    rw c.new.ensures.items
    (elim c.then-is_empty.branch [
      | then-is_empty-via-then-is_empty w ↦ none_excepted (tables_value c.args.tables.now)
          (numbers_value c.args.numbers.now) (no_cases c.args.numbers.now.2.now (sym w.if-is_empty.ensures))
      | then-is_empty-via-else-is_empty+then-not-gives_any w ↦ nothing_excepted (tables_value c.args.tables.now)
          (numbers_value c.args.numbers.now) (sym w.if-not-gives_any.ensures)
    ])

pub returns-clause-places : goal.returns-clause-places
returns-clause-places c =
    both_ok c.sorted_given.result
    (λ except order all. excepted_as (tables_value c.args.tables.now) (numbers_value c.args.numbers.now) except.items
    order all)
    c.sorted_given.ensures.order c.sorted_given.ensures.all
