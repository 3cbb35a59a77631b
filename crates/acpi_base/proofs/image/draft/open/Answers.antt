use Rattle.std.proofs.Common.{refl, arith}
use Rattle.acpi_base.proofs.Images.Drafts.{drafted-push, opened_draft}
use Rattle.acpi_base.proofs.image.draft.open.Goals as goal

pub returns-clause-draft : goal.returns-clause-draft
returns-clause-draft c =
    let long = c.len.ensures in
    drafted-push c.args.store.now.items _ c.args.bytes.now c.args.pieces.now.items _ c.args.base _
    c.requires.draft c.in_default.ensures.ok c.in_ok-push.ensures.items (omega arith) refl c.requires.some
    c.requires.fits

pub returns-clause-ok : goal.returns-clause-ok
returns-clause-ok c =
    let long = c.len.ensures in
    opened_draft c.args.store.now.items _ c.args.bytes.now c.args.pieces.now.items _ c.args.base _
    c.requires.draft c.in_default.ensures.ok c.in_ok-push.ensures.items (omega arith) refl
