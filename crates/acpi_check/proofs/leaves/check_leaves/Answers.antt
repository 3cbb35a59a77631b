use Rattle.std.proofs.Common.{◌≡◌, ◌∙◌, ap, arith}
use Rattle.acpi_base.specs.Header.{HeaderValue}
use Rattle.acpi_base.specs.Madt.{madt_contents}
use Rattle.acpi_base.specs.Pptt.{pptt_contents}
use Rattle.acpi_check.proofs.ProcessorNumbers.LeavesFaults.{revision, leaves_found}
use Rattle.acpi_check.proofs.EntryPasses.Passes.{refused}
use Rattle.acpi_check.proofs.leaves.check_leaves.Goals as goal
use Rattle.acpi_check.proofs.leaves.check_leaves.Goals.{then-header-lt-HAS_LEAVES-via-then-header-lt-HAS_LEAVES, then-header-lt-HAS_LEAVES-via-else-header-lt-HAS_LEAVES+then-do_leaves_follow}

pub returns-then-header-lt-HAS_LEAVES : goal.returns-then-header-lt-HAS_LEAVES
returns-then-header-lt-HAS_LEAVES c =
    let is : c.header.result.revision ≡ (pptt_contents c.args.pptt.now).revision =
    ap (λ (h : HeaderValue). h.revision) c.header.ensures.fields ∙ revision c.args.pptt.now in
    λ recent typed.
    elim c.then-header-lt-HAS_LEAVES.branch [
      | then-header-lt-HAS_LEAVES-via-then-header-lt-HAS_LEAVES w ↦
          absurd (omega (arith, w.if-header-lt-HAS_LEAVES.true))
      | then-header-lt-HAS_LEAVES-via-else-header-lt-HAS_LEAVES+then-do_leaves_follow w ↦
          w.do_leaves_follow.ensures w.if-do_leaves_follow.true recent typed
    ]

pub returns : goal.returns
returns c =
    let is : c.header.result.revision ≡ (pptt_contents c.args.pptt.now).revision =
    ap (λ (h : HeaderValue). h.revision) c.header.ensures.fields ∙ revision c.args.pptt.now in
    refused _ _ _ c.first_unknown.result c.refuse.result c.refuse.ensures
    (leaves_found (madt_contents c.args.madt.now) (pptt_contents c.args.pptt.now) c.in_ok-uids.uids.items
    c.in_ok-uids.ensures (omega (arith, c.if-header-lt-HAS_LEAVES.false)) c.if-not-are_types_known.ensures
    c.first_unknown.result
    (rw c.deref.ensures.value at c.first_unknown.ensures))
