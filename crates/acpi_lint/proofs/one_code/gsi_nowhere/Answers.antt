use Rattle.acpi_base.specs.Listed.{madt_signature}
use Rattle.acpi_base.specs.Madt.{madt_contents}
use Rattle.acpi_base.specs.Across.{AreNamedServed, ServedFault}
use Rattle.acpi_base.specs.declared.code.Code.TheVariants as code
use Rattle.acpi_base.specs.declared.stage.Stage.TheVariants as stage
use Rattle.acpi_base.specs.declared.table_kind.TableKind.TheVariants as kind
use Rattle.acpi_base.proofs.Across.Served.{excludes}
use Rattle.acpi_lint.proofs.ShortTables.{no_madt_entry}
use Rattle.acpi_lint.proofs.OfTables.{some_long, none_long}
use Rattle.acpi_lint.proofs.OneCodes.{one_gsi_nowhere}
use Rattle.acpi_lint.proofs.StageVerdicts.{verdict_found}
use Rattle.acpi_lint.proofs.one_code.gsi_nowhere.Goals as goal

pub returns-in-Some-clause-found : goal.returns-in-Some-clause-found
returns-in-Some-clause-found c = λ m are.
    let whole = c.in-Some.madt in
    some_long m c.args.policy.now.rsdp madt_signature
    (λ bytes. ServedFault c.args.policy.now (madt_contents bytes) code.GsiNowhere) c.place_of.result
    (are.listed kind.Madt) c.in-Some.ensures.0
    (verdict_found stage.Served code.GsiNowhere (AreNamedServed c.args.policy.now (madt_contents whole))
    (ServedFault c.args.policy.now (madt_contents whole))
    (excludes c.args.policy.now (madt_contents whole) code.GsiNowhere)
    (one_gsi_nowhere c.args.policy.now (madt_contents whole))
    c.check_served.result c.place_of.result c.check_served.ensures c.place_of.ensures.place)

pub returns-in-None-clause-found : goal.returns-in-None-clause-found
returns-in-None-clause-found c = λ m are.
    none_long m c.args.policy.now.rsdp madt_signature 44
    (λ bytes. ServedFault c.args.policy.now (madt_contents bytes) code.GsiNowhere) c.args.tables.now.madt
    (are.listed kind.Madt) c.in-None.ensures
    (λ whole less at other point (some, (e, stands, names), _, _). no_madt_entry whole less at e stands)
