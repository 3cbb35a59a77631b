use Rattle.std.proofs.Common.{◌≤◌, arith}
use Rattle.acpi_rules.proofs.Steps.{none_said, last_or_next}
use Rattle.acpi_rules.proofs.structures.next_structure.Goals as goal

pub returns-then-most-eq0 : goal.returns-then-most-eq0
returns-then-most-eq0 c =
    none_said c.args.shape c.args.counted c.args.most c.args.end c.args.at c.args.left.now (omega arith)

pub returns : goal.returns
returns c =
    let some : 1 ≤ c.args.most = omega arith in
    last_or_next c.args.shape c.args.counted c.args.most c.args.end c.args.at c.args.left.now c.first_structure.result
    some c.first_structure.ensures
