use Rattle.std.proofs.Common.{length, ◌-◌, ◌≤◌, drop, map, take}
use Rattle.acpi_rules.specs.Cases.{GiveSame, case_value}
use Rattle.acpi_rules.proofs.case.cases_of_type.Given as goal

-- those before are for other types
abbrev pub invariant-loop-first : goal.invariant-loop-first
invariant-loop-first l = record {
  within : l.first ≤ length l.cases;
  same : GiveSame l.kind (map case_value (drop l.first l.cases)) (map case_value l.cases);
}

abbrev pub decreases-loop-first : goal.decreases-loop-first
decreases-loop-first l = length l.cases - l.first

-- those after them are for other types
abbrev pub invariant-loop-count : goal.invariant-loop-count
invariant-loop-count l = record {
  within : l.count ≤ length l.own;
  same : GiveSame l.kind (map case_value (take l.count l.own)) (map case_value l.own);
}

abbrev pub decreases-loop-count : goal.decreases-loop-count
decreases-loop-count l = l.count
