use Rattle.acpi_base.specs.Listed.{slit_signature, HasListed}
use Rattle.acpi_base.specs.Slit.{slit_contents}
use Rattle.acpi_lint.specs.ByHand.{InSized}
use Rattle.acpi_lint.specs.Rules.SlitAdvice.{IsSlitDiffers, IsRemoteAsLocal}
use Rattle.acpi_lint.specs.declared.rule.Rule.TheVariants as rule
use Rattle.acpi_lint.proofs.ByHand.{none_added}
use Rattle.acpi_lint.proofs.CollectedNumbers.{each_ok}
use Rattle.acpi_lint.proofs.OfTables.{slit_found, not_there, there}
use Rattle.acpi_lint.proofs.by_hand.add_of_slit.Goals as goal

pub returns-in_default-clause-adds : goal.returns-in_default-clause-adds
returns-in_default-clause-adds c = λ m q are. λ done before.
    let found = c.args.found.now.items in
    let lifts = slit_found m q c.table.result are c.table.ensures in
    none_added m q rule.RemoteAsLocal found (not_there (HasListed m q.rsdp slit_signature) (λ whole. whole)
    (λ whole. InSized IsRemoteAsLocal (slit_contents whole)) lifts c.in_default.is) _
    (none_added m q rule.SlitDiffers found (not_there (HasListed m q.rsdp slit_signature) (λ whole. whole)
    (λ whole. InSized IsSlitDiffers (slit_contents whole)) lifts c.in_default.is) done before)

pub returns-clause-adds : goal.returns-clause-adds
returns-clause-adds c =
    each_ok c.add-2.result
    (λ _ last. λ m q are. λ done before.
    let lifts = slit_found m q c.table.result are c.table.ensures in
    last m q (there (HasListed m q.rsdp slit_signature) (λ whole. whole)
    (λ whole. InSized IsRemoteAsLocal (slit_contents whole)) c.remote_as_local.result lifts c.in-Some.is
    c.remote_as_local.ensures) _
    (c.in_ok-add.ensures.adds m q (there (HasListed m q.rsdp slit_signature) (λ whole. whole)
    (λ whole. InSized IsSlitDiffers (slit_contents whole)) c.slit_differs.result lifts c.in-Some.is
    c.slit_differs.ensures) _ before))
    c.add-2.ensures.adds
