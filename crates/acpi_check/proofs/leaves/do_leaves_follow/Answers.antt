use Rattle.std.proofs.Common.{sym, subst, ◌∙◌}
use Rattle.std.proofs.lemmas.Option.{same_Some, none-some}
use Rattle.acpi_base.specs.Across.{IsUid}
use Rattle.acpi_base.specs.Madt.{madt_contents}
use Rattle.acpi_check.specs.NamedNumbers.{IsKnown}
use Rattle.acpi_check.specs.Processors.{leaf_id}
use Rattle.acpi_check.proofs.EntryPasses.Kept.{pptt_rising}
use Rattle.acpi_check.proofs.EntryPasses.Passes.{none_passed, past}
use Rattle.acpi_check.proofs.ProcessorNumbers.LeavesFaults.{is_leaf}
use Rattle.acpi_check.proofs.ProcessorNumbers.NamedPass.{ends}
use Rattle.acpi_check.proofs.leaves.do_leaves_follow.Goals as goal

pub loop-at-init : goal.loop-at-init
loop-at-init c =
    let Known = IsUid (madt_contents c.args.madt.now) in
    record {
      leaves = rw c.entries-entries.ensures.entries
          (none_passed 36 (λ o e. IsKnown Known (leaf_id e)) (pptt_rising c.args.pptt.now));
      processors = rw c.entries-processors.ensures.entries (record { listed = λ o e stands. stands });
    }

pub loop-at-preserved-else-not-pass_uid : goal.loop-at-preserved-else-not-pass_uid
loop-at-preserved-else-not-pass_uid c =
    let id = c.in-Some-leaf_id.id in
    let (o, (e, stands, has)) = c.pass_uid.ensures.found c.if-not-pass_uid.false in
    let known : IsUid (madt_contents c.args.madt.now) id =
    (o, (e, c.loop-at.invariant.processors.listed o e stands, has)) in
    record {
      leaves = past (rw c.in-Some.ensures.steps.0 at c.loop-at.invariant.leaves) (λ n is.
          subst (IsUid (madt_contents c.args.madt.now))
          (same_Some id n (sym c.in-Some-leaf_id.is ∙ c.leaf_id.ensures ∙ is)) known);
      processors = record {
        listed = λ p b there.
            c.loop-at.invariant.processors.listed p b (c.pass_uid.ensures.among.listed p b there);
      };
    }

pub loop-at-preserved : goal.loop-at-preserved
loop-at-preserved c = record {
  leaves = past (rw c.in-Some.ensures.steps.0 at c.loop-at.invariant.leaves)
      (λ n is. absurd (none-some n (sym c.in_default-leaf_id.is ∙ c.leaf_id.ensures ∙ is)));
  processors = c.loop-at.invariant.processors;
}

pub returns : goal.returns
returns c = λ _ _ _ o id (e, stands, leaf).
    ends (IsUid (madt_contents c.args.madt.now)) leaf_id
    (rw c.in_default.ensures.steps.0 at c.loop-at.invariant.leaves) o id (e, stands, (is_leaf id e).0 leaf)
