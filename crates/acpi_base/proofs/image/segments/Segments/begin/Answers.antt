use Rattle.std.proofs.Common.{refl, arith}
use Rattle.acpi_base.proofs.Images.SegmentOrder.{moved_present, moved_laid, pushed_present, pushed_laid}
use Rattle.acpi_base.proofs.image.segments.Segments.begin.Goals as goal

pub returns-then-open-eq0-clause-valid : goal.returns-then-open-eq0-clause-valid
returns-then-open-eq0-clause-valid c =
    let long = c.len.ensures in
    let none = c.if-open-eq0.true in
    moved_laid _ _ c.args.self.now.base _ _ (omega arith) (omega arith) (omega arith) c.requires.valid

pub returns-then-open-eq0-clause-same : goal.returns-then-open-eq0-clause-same
returns-then-open-eq0-clause-same c =
    let long = c.len.ensures in
    let none = c.if-open-eq0.true in
    moved_present _ _ _ _ _ (omega arith)

pub returns-clause-valid : goal.returns-clause-valid
returns-clause-valid c =
    let long = c.len.ensures in
    let some = c.if-open-eq0.false in
    let gap = c.if-base-self.false in
    let behind = c.requires.behind in
    let within = c.requires.valid.within in
    pushed_laid _ _ _ _ _ c.args.self.now.start _ _ c.in_ok-push.ensures.items c.requires.valid refl (omega arith)
    (omega arith) (omega arith) (omega arith) (omega arith)

pub returns-clause-same : goal.returns-clause-same
returns-clause-same c =
    let long = c.len.ensures in
    let within = c.requires.valid.within in
    pushed_present _ _ _ _ _ c.args.self.now.start _ _ c.in_ok-push.ensures.items c.requires.valid refl (omega arith)
    (omega arith)
