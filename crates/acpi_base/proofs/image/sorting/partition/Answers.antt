use Rattle.std.proofs.Common.{inl, inr, get_or, arith}
use Rattle.std.proofs.lemmas.Bool.{cases_lt, le-leb, lt-leb}
use Rattle.acpi_base.proofs.Images.Partitioned.{partitioned_high, partitioned_low, partitioned_more}
use Rattle.acpi_base.proofs.image.sorting.partition.Goals as goal

pub loop-i-preserved : goal.loop-i-preserved
loop-i-preserved c =
    let long = c.loop-i.auto.i-end in
    let first = (get_or c.loop-i.pieces c.loop-i.i (0, record { start = 0; len = 0 })).0 in
    partitioned_more c.args.most c.args.pieces.now c.loop-i.pieces c.loop-i.count c.loop-i.i _
    (0, record { start = 0; len = 0 }) c.loop-i.invariant (omega (arith, c.loop-i-test.true))
    (elim (cases_lt c.args.most first) [
      | inl high ↦ inr (rw (lt-leb first c.args.most high) (omega arith), high)
      | inr low ↦ inl (rw (le-leb first c.args.most low) (omega arith), low)
    ])

pub returns-clause-low : goal.returns-clause-low
returns-clause-low c =
    let end = c.loop-i-test.false in
    partitioned_low c.args.most c.args.pieces.now c.loop-i.pieces c.loop-i.count c.loop-i.i c.loop-i.invariant
    (omega arith) (omega arith)

pub returns-clause-high : goal.returns-clause-high
returns-clause-high c =
    let end = c.loop-i-test.false in
    partitioned_high c.args.most c.args.pieces.now c.loop-i.pieces c.loop-i.count c.loop-i.i c.loop-i.invariant
    (omega arith) (omega arith)
