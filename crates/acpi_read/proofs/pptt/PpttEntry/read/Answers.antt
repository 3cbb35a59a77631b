use Rattle.std.proofs.Common.{refl, rules, arith}
use Rattle.acpi_read.proofs.PpttKinds.{node_typed, node_references, node_short, node_opaque, cache24_typed, cache28_typed, caches_opaque, others_opaque}
use Rattle.acpi_read.proofs.pptt.PpttEntry.read.Goals as goal

pub returns-in_ok-laid-in-0-2-clause-ok : goal.returns-in_ok-laid-in-0-2-clause-ok
returns-in_ok-laid-in-0-2-clause-ok c =
    node_typed _ _ _ c.requires c.in-0.is c.split_at.ensures.front c.split_at.ensures.back c.in_ok-laid-in-0-2.field-0
    c.in_ok-laid-in-0-2.ensures.ok

pub returns-in_ok-laid-in-0-2-clause-references : goal.returns-in_ok-laid-in-0-2-clause-references
returns-in_ok-laid-in-0-2-clause-references c =
    node_references _ _ _ c.requires c.split_at.ensures.front c.split_at.ensures.back c.in_ok-laid-in-0-2.field-0
    c.in_ok-laid-in-0-2.ensures.ok

pub returns-in_ok-typed-in-1-clause-ok : goal.returns-in_ok-typed-in-1-clause-ok
returns-in_ok-typed-in-1-clause-ok c = cache28_typed _ _ c.in_ok-typed-in-1.ensures.ok

pub returns-in_ok-typed-in-1-2-clause-ok : goal.returns-in_ok-typed-in-1-2-clause-ok
returns-in_ok-typed-in-1-2-clause-ok c = cache24_typed _ _ c.in_ok-typed-in-1-2.ensures.ok

pub returns-in-0-clause-err : goal.returns-in-0-clause-err
returns-in-0-clause-err c =
    (refl, node_short c.args.bytes.now c.requires c.in-0.is c.if-bytes-lt-LEN.true, omega arith)

pub returns-in_err-laid-in-0-2-clause-err : goal.returns-in_err-laid-in-0-2-clause-err
returns-in_err-laid-in-0-2-clause-err c =
    let none = node_opaque c.args.bytes.now _ c.requires c.in-0.is c.if-bytes-lt-LEN.false c.split_at.ensures.front
    c.in_err-laid-in-0-2.ensures.err.1 in
    search rules

pub returns-in_err-typed-in-1-clause-err : goal.returns-in_err-typed-in-1-clause-err
returns-in_err-typed-in-1-clause-err c = absurd (c.in_err-typed-in-1.ensures.err.1 (omega arith))

pub returns-in_err-typed-in-1-2-clause-err : goal.returns-in_err-typed-in-1-2-clause-err
returns-in_err-typed-in-1-2-clause-err c =
    let none = caches_opaque c.args.bytes.now c.in-1.is c.in_err-typed-in-1-2.ensures.err.1 (omega arith) in
    search rules

pub returns-in_default-clause-ok : goal.returns-in_default-clause-ok
returns-in_default-clause-ok c = others_opaque c.args.bytes.now (omega arith) (omega arith)
