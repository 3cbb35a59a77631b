use Rattle.acpi_lint.specs.Rules.Broken.{OfFadt}
use Rattle.acpi_lint.specs.Rules.FadtBlocks.{IsPortPastEnd}
use Rattle.acpi_lint.specs.Rules.NamedAdvice.{IsDsdtText, IsDsdtWrong, IsFacsReserved, IsS4BiosDiffers}
use Rattle.acpi_lint.specs.Rules.Ports.{IsPortsOverlap}
use Rattle.acpi_lint.specs.declared.rule.Rule.TheVariants as rule
use Rattle.acpi_lint.proofs.ByHand.{none_added}
use Rattle.acpi_lint.proofs.CollectedNumbers.{each_ok}
use Rattle.acpi_lint.proofs.OfTables.{fadt_lifts, not_there, there}
use Rattle.acpi_lint.proofs.by_hand.add_of_fadt.Goals as goal

pub returns-in_default-clause-adds : goal.returns-in_default-clause-adds
returns-in_default-clause-adds c = λ q are. λ done before.
    let m = c.args.image.now in
    let found = c.args.found.now.items in
    let lifts = fadt_lifts m q c.fadt.result are c.fadt.ensures in
    none_added m q rule.S4BiosDiffers found
    (not_there (OfFadt m q) (λ whole. whole) (IsS4BiosDiffers m) lifts c.in_default.is) _
    (none_added m q rule.FacsReserved found
    (not_there (OfFadt m q) (λ whole. whole) (IsFacsReserved m) lifts c.in_default.is) _
    (none_added m q rule.DsdtText found
    (not_there (OfFadt m q) (λ whole. whole) (IsDsdtText m) lifts c.in_default.is) _
    (none_added m q rule.DsdtWrong found
    (not_there (OfFadt m q) (λ whole. whole) (IsDsdtWrong m) lifts c.in_default.is) _
    (none_added m q rule.PortPastEnd found
    (not_there (OfFadt m q) (λ whole. whole) IsPortPastEnd lifts c.in_default.is) _
    (none_added m q rule.PortsOverlap found
    (not_there (OfFadt m q) (λ whole. whole) IsPortsOverlap lifts c.in_default.is) done before)))))

pub returns-clause-adds : goal.returns-clause-adds
returns-clause-adds c =
    each_ok c.add-6.result
    (λ _ last. λ q are. λ done before.
    let m = c.args.image.now in
    let lifts = fadt_lifts m q c.fadt.result are c.fadt.ensures in
    last m q (there (OfFadt m q) (λ whole. whole) (IsS4BiosDiffers m) c.s4bios_differs.result
    lifts c.in-Some.is
    c.s4bios_differs.ensures) _
    (c.in_ok-add-5.ensures.adds m q (there (OfFadt m q) (λ whole. whole) (IsFacsReserved m) c.facs_reserved.result
    lifts c.in-Some.is
    c.facs_reserved.ensures) _
    (c.in_ok-add-4.ensures.adds m q (there (OfFadt m q) (λ whole. whole) (IsDsdtText m) c.dsdt_text.result
    lifts c.in-Some.is
    c.dsdt_text.ensures) _
    (c.in_ok-add-3.ensures.adds m q (there (OfFadt m q) (λ whole. whole) (IsDsdtWrong m) c.dsdt_wrong.result
    lifts c.in-Some.is
    c.dsdt_wrong.ensures) _
    (c.in_ok-add-2.ensures.adds m q (there (OfFadt m q) (λ whole. whole) IsPortPastEnd c.port_past_end.result
    lifts c.in-Some.is
    c.port_past_end.ensures) _
    (c.in_ok-add.ensures.adds m q (there (OfFadt m q) (λ whole. whole) IsPortsOverlap c.in_ok-ports_overlap.field-0
    lifts c.in-Some.is
    c.in_ok-ports_overlap.ensures) _
    before))))))
    c.add-6.ensures.adds
