use Rattle.std.proofs.Common.{◌≡◌, None, rules}
use Rattle.acpi_read.specs.EntryTables.{entry_table}
use Rattle.acpi_lint.proofs.EntryFaults.{no_second, second_found}
use Rattle.acpi_lint.proofs.passes.second_single.Goals as goal

pub returns-in_err-first : goal.returns-in_err-first
returns-in_err-first g c =
    let E = g.E.TableEntry in
    let none : c.from_residual.result ≡ None = search rules in
    rw none
    (no_second (entry_table E.first E.said_by (E.IsOwn c.args.policy.now) E.IsSingle) c.args.table.now c.args.code
    (rw c.in_err-first.was at c.first_sought.ensures))

pub returns : goal.returns
returns g c =
    let E = g.E.TableEntry in
    second_found (entry_table E.first E.said_by (E.IsOwn c.args.policy.now) E.IsSingle) c.args.table.now c.args.code
    c.in_ok-first.first c.first_sought-2.result (rw c.in_ok-first.was at c.first_sought.ensures)
    c.first_sought-2.ensures
