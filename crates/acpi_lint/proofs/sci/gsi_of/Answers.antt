use Rattle.std.proofs.Common.{inl}
use Rattle.acpi_lint.specs.Rules.FadtAdvice.{IsGsiOf}
use Rattle.acpi_base.specs.Madt.{madt_contents}
use Rattle.acpi_lint.proofs.SciGsis.{is_first_override, own_gsi, one_gsi}
use Rattle.acpi_lint.proofs.sci.gsi_of.Goals as goal

pub returns-in-Some : goal.returns-in-Some
returns-in-Some c =
    let whole = c.args.madt.now in
    let is : IsGsiOf (madt_contents whole) c.args.source c.in-Some.place.other =
    inl (is_first_override (madt_contents whole) c.args.source c.in-Some.place c.in-Some.ensures) in
    record { is = is; one = λ g other. one_gsi whole c.args.source g c.in-Some.place.other other is }

pub returns-in-None : goal.returns-in-None
returns-in-None c =
    let whole = c.args.madt.now in
    let is : IsGsiOf (madt_contents whole) c.args.source c.args.source =
    own_gsi (madt_contents whole) c.args.source c.in-None.ensures in
    rw c.from.ensures
    (record { is = is; one = λ g other. one_gsi whole c.args.source g c.args.source other is })
