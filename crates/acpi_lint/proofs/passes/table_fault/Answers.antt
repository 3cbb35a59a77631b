use Rattle.std.proofs.Common.{◌≡◌}
use Rattle.acpi_read.specs.EntryTables.{entry_table, subject_of}
use Rattle.acpi_read.specs.declared.entry_codes.Subject.TheVariants.{Second, Own}
use Rattle.acpi_lint.proofs.EntryFaults.{of_stage, own_found}
use Rattle.acpi_lint.proofs.passes.table_fault.Goals as goal

pub returns-in-Second : goal.returns-in-Second
returns-in-Second g c =
    let is : Second ≡ subject_of g.E.TableEntry.codes c.args.code = cc in
    of_stage c.args.policy.now c.args.table.now c.args.code Second c.second_single.result
    c.raw_entries-entries.ensures.faults is c.second_single.ensures

pub returns-in-Own : goal.returns-in-Own
returns-in-Own g c =
    let E = g.E.TableEntry in
    let t = entry_table E.first E.said_by (E.IsOwn c.args.policy.now) E.IsSingle in
    let is : Own ≡ subject_of E.codes c.args.code = cc in
    of_stage c.args.policy.now c.args.table.now c.args.code Own c.first_sought.result
    c.raw_entries-entries.ensures.faults is
    (own_found t c.args.table.now c.args.code c.first_sought.result c.first_sought.ensures)
