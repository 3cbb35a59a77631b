use Rattle.acpi_base.specs.declared.table_kind.TableKind.TheVariants as kind
use Rattle.acpi_lint.proofs.OneCodes.{gsi_result, no_gsi}
use Rattle.acpi_lint.proofs.one_code.gsi_clash.Goals as goal

pub returns-in-Some-clause-found : goal.returns-in-Some-clause-found
returns-in-Some-clause-found c = λ m are.
    gsi_result m c.args.policy.now c.in-Some.madt (rw c.in-Some.ensures.0 at are.listed kind.Madt)
    c.check_interrupts.result c.place_of.result c.check_interrupts.ensures c.place_of.ensures.place

pub returns-in-None-clause-found : goal.returns-in-None-clause-found
returns-in-None-clause-found c = λ m are.
    no_gsi m c.args.policy.now c.args.tables.now.madt (are.listed kind.Madt) c.in-None.ensures
