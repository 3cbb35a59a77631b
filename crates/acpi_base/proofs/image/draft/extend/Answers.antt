use Rattle.std.proofs.Common.{refl, ◌-◌, arith}
use Rattle.acpi_base.proofs.Images.Drafts.{drafted_last, extended_last}
use Rattle.acpi_base.proofs.image.draft.extend.Goals as goal

pub returns-clause-draft : goal.returns-clause-draft
returns-clause-draft c =
    let end = c.requires.end in
    let long = c.len-last.ensures in
    drafted_last c.args.store.now.items _ c.args.bytes.now c.args.pieces.now.items (c.len-last.result - 1) _
    c.index_mut.result.now _ end.0 c.requires.draft c.in_ok-append.ensures.ok end.1 end.2 (omega arith)
    c.index_mut.ensures.value refl refl

pub returns-clause-ok : goal.returns-clause-ok
returns-clause-ok c = λ base end.
    let long = c.len-last.ensures in
    extended_last c.args.store.now.items _ c.args.bytes.now c.args.pieces.now.items (c.len-last.result - 1) _
    c.index_mut.result.now _ base c.requires.draft c.in_ok-append.ensures.ok end (omega arith)
    c.index_mut.ensures.value refl refl
