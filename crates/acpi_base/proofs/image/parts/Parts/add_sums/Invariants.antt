use Rattle.std.proofs.Common.{◌≡◌}
use Rattle.std.specs.Vec.{vec_len}
use Rattle.acpi_base.proofs.image.parts.Parts.add_sums.Given as goal

-- the runs are those that were there
abbrev pub invariant-loop-index : goal.invariant-loop-index
invariant-loop-index l = record {
  own : l.self.own ≡ l.initial.self.own;
  lent : l.self.lent.items ≡ l.initial.self.lent.items;
  count : vec_len l.self.lent ≡ vec_len l.initial.self.lent;
}
