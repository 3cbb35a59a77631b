use Rattle.std.proofs.Common.{◌+◌, ◌-◌, arith, drop, length, map, take}
use Rattle.acpi_rules.specs.Cases.{case_value}
use Rattle.acpi_rules.proofs.CasesOfType.{same_after, skip_first, skip_last}
use Rattle.acpi_rules.proofs.case.cases_of_type.Goals as goal

pub loop-first-preserved : goal.loop-first-preserved
loop-first-preserved c =
    let i = c.loop-first.first in
    let cases = c.args.cases.now in
    record {
      within = omega (arith, c.loop-first-test.true);
      same = same_after c.args.kind (map case_value (drop (i + 1) cases)) (map case_value (drop i cases))
          (map case_value cases)
          (skip_first c.args.kind i cases _ c.loop-first-test.true c.if-not-has_type.ensures)
          c.loop-first.invariant.same;
    }

pub loop-count-preserved : goal.loop-count-preserved
loop-count-preserved c =
    let cases = c.args.cases.now in
    let own = take (length cases - c.loop-first.first) (drop c.loop-first.first cases) in
    let count = c.loop-count.count in
    let within = c.loop-count.invariant.within in
    record {
      within = omega (arith, within);
      same = same_after c.args.kind (map case_value (take (count - 1) own)) (map case_value (take count own))
          (map case_value own)
          (skip_last c.args.kind count own _ c.loop-count-test.true within c.if-not-has_type-2.ensures)
          c.loop-count.invariant.same;
    }
