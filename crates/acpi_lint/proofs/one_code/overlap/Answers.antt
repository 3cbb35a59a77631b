use Rattle.acpi_base.specs.declared.table_kind.TableKind.TheVariants as kind
use Rattle.acpi_lint.proofs.OneCodes.{overlap_result, no_overlap}
use Rattle.acpi_lint.proofs.one_code.overlap.Goals as goal

pub returns-in-Some-clause-found : goal.returns-in-Some-clause-found
returns-in-Some-clause-found c = λ m are.
    overlap_result m c.args.policy.now c.in-Some.srat (rw c.in-Some.ensures.0 at are.listed kind.Srat)
    c.check_ranges.result c.place_of.result (rw c.hotplug.ensures.value at c.check_ranges.ensures)
    c.place_of.ensures.place c.place_of.ensures.fits

pub returns-in-None-clause-found : goal.returns-in-None-clause-found
returns-in-None-clause-found c = λ m are.
    no_overlap m c.args.policy.now c.args.tables.now.srat (are.listed kind.Srat) c.in-None.ensures
