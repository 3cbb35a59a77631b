use Rattle.std.proofs.Common.{arith}
use Rattle.acpi_base.specs.Across.{HaveOneDomain, DomainFault, AreNamedServed, ServedFault, AreLeavesKnown, LeafFault}
use Rattle.acpi_base.specs.Madt.{madt_contents, IsValidMadt, MadtFault, AreInterruptsApart, IsFirstGsiClash, DoOverridesAgree, OverrideFault}
use Rattle.acpi_base.specs.Pptt.{pptt_contents, IsCutPptt, PpttFault, AreReferencesValid, ReferenceFault, DoParentsEnd, ParentFault, DoCachesEnd, CacheFault}
use Rattle.acpi_base.specs.Slit.{slit_contents, IsValidSlit, SlitFault}
use Rattle.acpi_base.specs.Srat.{srat_contents, IsValidSrat, SratFault, AreRangesApart, IsFirstOverlap}
use Rattle.acpi_base.specs.declared.code.Code.TheVariants as code
use Rattle.acpi_base.specs.declared.stage.Stage.TheVariants as stage
use Rattle.acpi_base.specs.declared.table_kind.TableKind.TheVariants as kind
use Rattle.acpi_check.specs.TableResults.{IsOverlap}
use Rattle.acpi_check.proofs.Spans.RangeClashes.{gsi_clash_first, overlap_first}
use Rattle.acpi_check.proofs.SetFaults.TablesLifted.{listed_of_first, of_none, of_one, of_two, earlier, unlisted, settled}
use Rattle.acpi_check.proofs.later_stages.found.Goals as goal

pub returns-in_err-first-in-Madt : goal.returns-in_err-first-in-Madt
returns-in_err-first-in-Madt c =
    unlisted c.requires c.in-Madt.is kind.Madt c.first.ensures c.in_err-first-in-Madt.was c.from_residual.ensures
    (of_none _)

pub returns-in_ok-first-in-Madt : goal.returns-in_ok-first-in-Madt
returns-in_ok-first-in-Madt c =
    settled c.requires c.in-Madt.is kind.Madt c.first.ensures c.in_ok-first-in-Madt.was
    (λ whole. IsValidMadt c.args.set.now.policy.now (madt_contents whole))
    (λ whole. MadtFault c.args.set.now.policy.now (madt_contents whole)) (λ all. all) (λ v. (λ h. h, λ h. h))
    (λ v least. least) c.check_entries.result c.check_entries.ensures.settled

pub returns-in_err-first-in-Interrupts : goal.returns-in_err-first-in-Interrupts
returns-in_err-first-in-Interrupts c =
    unlisted c.requires c.in-Interrupts.is kind.Madt c.first-in-Interrupts.ensures c.in_err-first-in-Interrupts.was
    c.from_residual-in_err-first-in-Interrupts.ensures (of_none _)

pub returns-in_ok-first-in-Interrupts : goal.returns-in_ok-first-in-Interrupts
returns-in_ok-first-in-Interrupts c =
    rw c.in-Interrupts.is
    (of_one stage.Interrupts (λ whole. AreInterruptsApart c.args.set.now.policy.now (madt_contents whole))
    (λ whole. IsOverlap code.GsiClash (IsFirstGsiClash c.args.set.now.policy.now (madt_contents whole))) (λ all. all)
    (gsi_clash_first c.args.set.now.listed.image.now c.args.set.now.policy.now
    (rw c.in-Interrupts.is at c.requires.clean))
    (listed_of_first c.requires.tables.listed.tables kind.Madt c.first-in-Interrupts.ensures
    c.in_ok-first-in-Interrupts.was)
    c.check_interrupts.result c.check_interrupts.ensures)

pub returns-in_err-first-in-Overrides : goal.returns-in_err-first-in-Overrides
returns-in_err-first-in-Overrides c =
    unlisted c.requires c.in-Overrides.is kind.Madt c.first-in-Overrides.ensures c.in_err-first-in-Overrides.was
    c.from_residual-in_err-first-in-Overrides.ensures (of_none _)

pub returns-in_ok-first-in-Overrides : goal.returns-in_ok-first-in-Overrides
returns-in_ok-first-in-Overrides c =
    settled c.requires c.in-Overrides.is kind.Madt c.first-in-Overrides.ensures c.in_ok-first-in-Overrides.was
    (λ whole. DoOverridesAgree (madt_contents whole)) (λ whole. OverrideFault (madt_contents whole)) (λ all. all)
    (λ v. (λ h. h, λ h. h)) (λ v least. least) c.check_overrides.result c.check_overrides.ensures.settled

pub returns-in_err-first-in-Srat : goal.returns-in_err-first-in-Srat
returns-in_err-first-in-Srat c =
    unlisted c.requires c.in-Srat.is kind.Srat c.first-in-Srat.ensures c.in_err-first-in-Srat.was
    c.from_residual-in_err-first-in-Srat.ensures (of_none _)

pub returns-in_ok-first-in-Srat : goal.returns-in_ok-first-in-Srat
returns-in_ok-first-in-Srat c =
    settled c.requires c.in-Srat.is kind.Srat c.first-in-Srat.ensures c.in_ok-first-in-Srat.was
    (λ whole. IsValidSrat (srat_contents whole)) (λ whole. SratFault (srat_contents whole)) (λ all. all)
    (λ v. (λ h. h, λ h. h)) (λ v least. least) c.check_entries-in-Srat.result c.check_entries-in-Srat.ensures.settled

pub returns-in_err-first-in-Ranges : goal.returns-in_err-first-in-Ranges
returns-in_err-first-in-Ranges c =
    unlisted c.requires c.in-Ranges.is kind.Srat c.first-in-Ranges.ensures c.in_err-first-in-Ranges.was
    c.from_residual-in_err-first-in-Ranges.ensures (of_none _)

pub returns-in_ok-first-in-Ranges : goal.returns-in_ok-first-in-Ranges
returns-in_ok-first-in-Ranges c =
    rw c.in-Ranges.is
    (of_one stage.Ranges (λ whole. AreRangesApart c.args.set.now.policy.now.hotplug (srat_contents whole))
    (λ whole. IsOverlap code.Overlap (IsFirstOverlap c.args.set.now.policy.now.hotplug (srat_contents whole)))
    (λ all. all)
    (overlap_first c.args.set.now.listed.image.now c.args.set.now.policy.now
    (rw c.in-Ranges.is at c.requires.clean))
    (listed_of_first c.requires.tables.listed.tables kind.Srat c.first-in-Ranges.ensures c.in_ok-first-in-Ranges.was)
    c.check_ranges.result (rw c.hotplug.ensures.value at c.check_ranges.ensures))

pub returns-in_err-first-in-Slit : goal.returns-in_err-first-in-Slit
returns-in_err-first-in-Slit c =
    unlisted c.requires c.in-Slit.is kind.Slit c.first-in-Slit.ensures c.in_err-first-in-Slit.was
    c.from_residual-in_err-first-in-Slit.ensures (of_none _)

pub returns-in_ok-first-in-Slit : goal.returns-in_ok-first-in-Slit
returns-in_ok-first-in-Slit c =
    settled c.requires c.in-Slit.is kind.Slit c.first-in-Slit.ensures c.in_ok-first-in-Slit.was
    (λ whole. IsValidSlit (slit_contents whole)) (λ whole. SlitFault (slit_contents whole)) (λ all. all)
    (λ v. (λ h. h, λ h. h)) (λ v least. least) c.check_slit.result c.check_slit.ensures.settled

pub returns-in_err-first-in-Pptt : goal.returns-in_err-first-in-Pptt
returns-in_err-first-in-Pptt c =
    unlisted c.requires c.in-Pptt.is kind.Pptt c.first-in-Pptt.ensures c.in_err-first-in-Pptt.was
    c.from_residual-in_err-first-in-Pptt.ensures (of_none _)

pub returns-in_ok-first-in-Pptt : goal.returns-in_ok-first-in-Pptt
returns-in_ok-first-in-Pptt c =
    settled c.requires c.in-Pptt.is kind.Pptt c.first-in-Pptt.ensures c.in_ok-first-in-Pptt.was
    (λ whole. IsCutPptt (pptt_contents whole)) (λ whole. PpttFault (pptt_contents whole)) (λ all. all)
    (λ v. (λ h. h, λ h. h)) (λ v least. least) c.check_entries-in-Pptt.result c.check_entries-in-Pptt.ensures.settled

pub returns-in_err-first-in-References : goal.returns-in_err-first-in-References
returns-in_err-first-in-References c =
    unlisted c.requires c.in-References.is kind.Pptt c.first-in-References.ensures c.in_err-first-in-References.was
    c.from_residual-in_err-first-in-References.ensures (of_none _)

pub check_references-requires : goal.check_references-requires
check_references-requires c =
    earlier c.requires c.in-References.is stage.Pptt (omega arith) _
    (listed_of_first c.requires.tables.listed.tables kind.Pptt c.first-in-References.ensures
    c.in_ok-first-in-References.was)

pub returns-in_ok-first-in-References : goal.returns-in_ok-first-in-References
returns-in_ok-first-in-References c =
    settled c.requires c.in-References.is kind.Pptt c.first-in-References.ensures c.in_ok-first-in-References.was
    (λ whole. AreReferencesValid (pptt_contents whole)) (λ whole. ReferenceFault (pptt_contents whole)) (λ all. all)
    (λ v. (λ h. h, λ h. h)) (λ v least. least) c.check_references.result c.check_references.ensures

pub returns-in_err-first-in-Parents : goal.returns-in_err-first-in-Parents
returns-in_err-first-in-Parents c =
    unlisted c.requires c.in-Parents.is kind.Pptt c.first-in-Parents.ensures c.in_err-first-in-Parents.was
    c.from_residual-in_err-first-in-Parents.ensures (of_none _)

pub check_parents-requires : goal.check_parents-requires
check_parents-requires c =
    earlier c.requires c.in-Parents.is stage.References (omega arith) _
    (listed_of_first c.requires.tables.listed.tables kind.Pptt c.first-in-Parents.ensures
    c.in_ok-first-in-Parents.was)

pub returns-in_ok-first-in-Parents : goal.returns-in_ok-first-in-Parents
returns-in_ok-first-in-Parents c =
    settled c.requires c.in-Parents.is kind.Pptt c.first-in-Parents.ensures c.in_ok-first-in-Parents.was
    (λ whole. DoParentsEnd (pptt_contents whole)) (λ whole. ParentFault (pptt_contents whole)) (λ all. all)
    (λ v. (λ h. h, λ h. h)) (λ v least. least) c.check_parents.result c.check_parents.ensures

pub returns-in_err-first-in-Caches : goal.returns-in_err-first-in-Caches
returns-in_err-first-in-Caches c =
    unlisted c.requires c.in-Caches.is kind.Pptt c.first-in-Caches.ensures c.in_err-first-in-Caches.was
    c.from_residual-in_err-first-in-Caches.ensures (of_none _)

pub check_caches-requires : goal.check_caches-requires
check_caches-requires c =
    earlier c.requires c.in-Caches.is stage.References (omega arith) _
    (listed_of_first c.requires.tables.listed.tables kind.Pptt c.first-in-Caches.ensures
    c.in_ok-first-in-Caches.was)

pub returns-in_ok-first-in-Caches : goal.returns-in_ok-first-in-Caches
returns-in_ok-first-in-Caches c =
    settled c.requires c.in-Caches.is kind.Pptt c.first-in-Caches.ensures c.in_ok-first-in-Caches.was
    (λ whole. DoCachesEnd (pptt_contents whole)) (λ whole. CacheFault (pptt_contents whole)) (λ all. all)
    (λ v. (λ h. h, λ h. h)) (λ v least. least) c.check_caches.result c.check_caches.ensures

pub returns-in_err-first-in-Domains : goal.returns-in_err-first-in-Domains
returns-in_err-first-in-Domains c =
    unlisted c.requires c.in-Domains.is kind.Madt c.first-in-Domains.ensures c.in_err-first-in-Domains.was
    c.from_residual-in_err-first-in-Domains.ensures (of_none _)

pub returns-in_err-first-in-Domains-2 : goal.returns-in_err-first-in-Domains-2
returns-in_err-first-in-Domains-2 c =
    unlisted c.requires c.in-Domains.is kind.Srat c.first-in-Domains-2.ensures c.in_err-first-in-Domains-2.was
    c.from_residual-in_err-first-in-Domains-2.ensures (λ none _ _. of_none _ none)

pub returns-in_ok-first-in-Domains-2 : goal.returns-in_ok-first-in-Domains-2
returns-in_ok-first-in-Domains-2 c =
    rw c.in-Domains.is
    (of_two stage.Domains (λ x y. HaveOneDomain c.args.set.now.policy.now.processors (madt_contents x)
    (srat_contents y))
    (λ x y. DomainFault c.args.set.now.policy.now.processors (madt_contents x) (srat_contents y))
    (λ all. all) (λ v. (λ h. h, λ h. h)) (λ v least. least) (rw c.in-Domains.is at c.requires.clean)
    (listed_of_first c.requires.tables.listed.tables kind.Madt c.first-in-Domains.ensures
    c.in_ok-first-in-Domains.was)
    (listed_of_first c.requires.tables.listed.tables kind.Srat c.first-in-Domains-2.ensures
    c.in_ok-first-in-Domains-2.was)
    c.check_domains.result (rw c.processors.ensures.value at c.check_domains.ensures))

pub returns-in_err-first-in-Served : goal.returns-in_err-first-in-Served
returns-in_err-first-in-Served c =
    unlisted c.requires c.in-Served.is kind.Madt c.first-in-Served.ensures c.in_err-first-in-Served.was
    c.from_residual-in_err-first-in-Served.ensures (of_none _)

pub returns-in_ok-first-in-Served : goal.returns-in_ok-first-in-Served
returns-in_ok-first-in-Served c =
    settled c.requires c.in-Served.is kind.Madt c.first-in-Served.ensures c.in_ok-first-in-Served.was
    (λ whole. AreNamedServed c.args.set.now.policy.now (madt_contents whole))
    (λ whole. ServedFault c.args.set.now.policy.now (madt_contents whole)) (λ all. all) (λ v. (λ h. h, λ h. h))
    (λ v least. least) c.check_served.result c.check_served.ensures

pub returns-in_err-first-in-Leaves : goal.returns-in_err-first-in-Leaves
returns-in_err-first-in-Leaves c =
    unlisted c.requires c.in-Leaves.is kind.Madt c.first-in-Leaves.ensures c.in_err-first-in-Leaves.was
    c.from_residual-in_err-first-in-Leaves.ensures (of_none _)

pub returns-in_err-first-in-Leaves-2 : goal.returns-in_err-first-in-Leaves-2
returns-in_err-first-in-Leaves-2 c =
    unlisted c.requires c.in-Leaves.is kind.Pptt c.first-in-Leaves-2.ensures c.in_err-first-in-Leaves-2.was
    c.from_residual-in_err-first-in-Leaves-2.ensures (λ none _ _. of_none _ none)

pub returns-in_ok-first-in-Leaves-2 : goal.returns-in_ok-first-in-Leaves-2
returns-in_ok-first-in-Leaves-2 c =
    rw c.in-Leaves.is
    (of_two stage.Leaves (λ x y. AreLeavesKnown (madt_contents x) (pptt_contents y))
    (λ x y. LeafFault (madt_contents x) (pptt_contents y))
    (λ all. all) (λ v. (λ h. h, λ h. h)) (λ v least. least) (rw c.in-Leaves.is at c.requires.clean)
    (listed_of_first c.requires.tables.listed.tables kind.Madt c.first-in-Leaves.ensures
    c.in_ok-first-in-Leaves.was)
    (listed_of_first c.requires.tables.listed.tables kind.Pptt c.first-in-Leaves-2.ensures
    c.in_ok-first-in-Leaves-2.was)
    c.check_leaves.result c.check_leaves.ensures)
