use Rattle.std.proofs.Common.{arith}
use Rattle.acpi_base.proofs.Images.Twice.{none_before, some_come}
use Rattle.acpi_base.proofs.image.draft.first_twice.Goals as goal

pub loop-twice-init : goal.loop-twice-init
loop-twice-init c =
    let twice = c.in_ok-found.ensures in (
      none_before c.args.pieces.now,
      twice,
      some_come c.args.pieces.now c.args.count c.in_ok-found.found twice,
      omega arith,
    )
