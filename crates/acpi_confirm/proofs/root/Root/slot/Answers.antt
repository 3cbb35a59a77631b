use Rattle.std.proofs.Common.{◌+◌, ◌*◌, ◌≤◌, length, arith}
use Rattle.acpi_confirm.proofs.Roots.{slot_end}
use Rattle.acpi_confirm.proofs.root.Root.slot.Goals as goal

pub overflow_mul-start : goal.overflow_mul-start
overflow_mul-start c =
    let root = c.args.self.now in
    let inside : 36 + root.width * (c.args.k + 1) ≤ length root.bytes.now =
    (c.slots.ensures c.args.k).0 (omega arith) in
    let fits = slot_end root.width c.args.k (length root.bytes.now) inside in
    omega arith

pub overflow_add-start : goal.overflow_add-start
overflow_add-start c =
    let root = c.args.self.now in
    let inside : 36 + root.width * (c.args.k + 1) ≤ length root.bytes.now =
    (c.slots.ensures c.args.k).0 (omega arith) in
    let fits = slot_end root.width c.args.k (length root.bytes.now) inside in
    omega arith
