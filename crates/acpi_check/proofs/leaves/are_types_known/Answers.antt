use Rattle.std.proofs.Common.{◌≡◌, true, refl, sym, ap, ◌∙◌}
use Rattle.std.proofs.lemmas.Bool.{false≢true}
use Rattle.acpi_base.specs.Madt.{madt_contents}
use Rattle.acpi_check.specs.Processors.{has_known_type}
use Rattle.acpi_check.proofs.EntryPasses.Kept.{madt_rising}
use Rattle.acpi_check.proofs.EntryPasses.Passes.{none_passed, past}
use Rattle.acpi_check.proofs.EntryPasses.TypedPass.{stops, filled_or_not}
use Rattle.acpi_check.proofs.leaves.are_types_known.Goals as goal

pub returns-in_default : goal.returns-in_default
unfolding madt_contents
returns-in_default c = λ typed. false≢true (c.in_default.ensures.ok.1 (rw c.copied.ensures typed.long))

pub loop-entry-init : goal.loop-entry-init
unfolding madt_contents
loop-entry-init c =
    rw (c.in-Ok.ensures.entries, c.copied.ensures)
    (none_passed 44 (λ o e. has_known_type e ≡ true) (madt_rising c.args.madt.now), refl)

pub returns-then-not-has_known_type : goal.returns-then-not-has_known_type
returns-then-not-has_known_type c =
    stops (madt_contents c.args.madt.now) _ _ (rw c.in-Some.ensures.steps.0 at c.loop-entry.invariant.0)
    (sym (ap has_known_type c.of.ensures.value) ∙ sym c.has_known_type.ensures ∙ c.if-not-has_known_type.true)

pub loop-entry-preserved : goal.loop-entry-preserved
loop-entry-preserved c = (
  past (rw c.in-Some.ensures.steps.0 at c.loop-entry.invariant.0)
      (sym (ap has_known_type c.of.ensures.value) ∙ sym c.has_known_type.ensures ∙ c.if-not-has_known_type.false),
  c.in-Some.ensures.steps.1 ∙ c.loop-entry.invariant.1,
)

pub returns : goal.returns
returns c =
    let steps = c.in_default-next.ensures.steps in
    filled_or_not c.args.madt.now c.cut.result c.is_none.result (rw c.copied.ensures at (c.in-Ok.ensures.ok.0 refl))
    (rw steps.0.0 at c.loop-entry.invariant.0)
    (rw steps.0.1 at c.cut.ensures ∙ steps.1 ∙ c.loop-entry.invariant.1) c.is_none.ensures
