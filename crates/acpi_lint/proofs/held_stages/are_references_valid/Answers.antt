use Rattle.std.proofs.Common.{sym, subst, ◌∙◌}
use Rattle.std.proofs.lemmas.Option.{same_Some}
use Rattle.acpi_base.specs.Pptt.{pptt_contents, AreReferencesValid, ReferenceFault}
use Rattle.acpi_base.specs.declared.stage.Stage.TheVariants as stage
use Rattle.acpi_check.specs.TableResults.{IsFirstOfTable}
use Rattle.acpi_lint.proofs.HeldStages.{holds_if_none}
use Rattle.acpi_lint.proofs.held_stages.are_references_valid.Goals as goal

pub returns-clause-found : goal.returns-clause-found
returns-clause-found c none whole same =
    subst (λ bytes. AreReferencesValid (pptt_contents bytes))
    (same_Some c.in-Some.pptt whole (sym c.in-Some.is ∙ same))
    (holds_if_none c.check_references.result c.in_ok-place.place c.is_none.result stage.References
    (AreReferencesValid (pptt_contents c.in-Some.pptt))
    (IsFirstOfTable stage.References (ReferenceFault (pptt_contents c.in-Some.pptt)))
    c.check_references.ensures c.in_ok-place.ensures.place c.is_none.ensures none)
