use Rattle.acpi_confirm.specs.Roots.{IsFirstSoFar}
use Rattle.acpi_confirm.proofs.listed_tables.first_with_each.Given as goal

-- the first table that the slots before k list is known
abbrev pub invariant-loop-k : goal.invariant-loop-k
invariant-loop-k l = record {
  one : IsFirstSoFar l.image l.root.bytes.now l.root.width l.k l.one l.first;
  other : IsFirstSoFar l.image l.root.bytes.now l.root.width l.k l.other l.second;
}
