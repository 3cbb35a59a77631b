-- The examples of advice on the redistributors of a GIC, by computing.
use Rattle.std.proofs.Common.{refl, arith}
use Rattle.std.proofs.lemmas.Bool.{both_ways}
use Rattle.acpi_base.specs.Number.{field, number_bytes}
use Rattle.acpi_rules.specs.Cases.{gives, has_length, has_type, in_case, is_kind}
use Rattle.acpi_rules.specs.Clauses.{all_hold, holds, passes}
use Rattle.acpi_rules.specs.Fields.{reading}
use Rattle.acpi_rules.specs.Rows.{guard_holds}
use Rattle.acpi_rules.specs.Series.{first_bytes, head_said, kind_in, most_of, said_in, size_in, start_of}
use Rattle.acpi_rules.specs.Terms.{value_number}
use Rattle.acpi_rules.specs.Walks.{cut_from, structures_from}
use Rattle.acpi_examples.specs.AdviceGic.{IsGicAdvised}

pub gic_advised : IsGicAdvised
unfolding field number_bytes gives has_length has_type in_case is_kind all_hold holds passes reading
    guard_holds first_bytes head_said kind_in most_of said_in size_in start_of
    value_number cut_from structures_from
gic_advised = record {
  few = record { known = refl; first = (_, refl, refl); count = refl; due = refl; fewer = omega arith };
  halves = record { known = refl; first = (_, refl, refl); count = refl; due = refl; fewer = omega arith };
  enough = λ at other point it. omega (arith, it.count, it.due, it.fewer);
  other = λ at other point it. both_ways _ refl it.known;
  older = λ at other point it. both_ways _ refl it.known;
}
