use Rattle.std.proofs.Common.{arith}
use Rattle.acpi_base.proofs.RsdpSearch.{nothing_there}
use Rattle.acpi_base.proofs.find.next_searched.Goals as goal

pub returns-in_err-first : goal.returns-in_err-first
returns-in_err-first c =
    rw c.from_residual.ensures
    (λ a from searched. nothing_there c.args.image.now a (c.in_err-first.ensures a from))

pub returns-then-first-gt-LAST : goal.returns-then-first-gt-LAST
returns-then-first-gt-LAST c = λ a from searched.
    nothing_there c.args.image.now a
    (c.in_ok-first.ensures.none_before a from (omega (arith, searched.most, c.if-first-gt-LAST.true)))

pub returns : goal.returns
returns c =
    let first = c.in_ok-first.first in
    let from = c.in_ok-first.ensures.from_there in
    let last = c.if-first-gt-LAST.false in
    let start = c.requires.searched.least in (
      record { least = omega (arith, from, start); most = omega (arith, last); aligned = omega arith },
      omega (arith, from),
      c.bytes_from.ensures,
      λ a low high searched. nothing_there c.args.image.now a
          (c.in_ok-first.ensures.none_before a low (omega (arith, high, searched.aligned))),
    )
