use Rattle.std.proofs.Common.{◌≡◌, None, sym, ◌∙◌, rules}
use Rattle.acpi_base.specs.TableKinds.{signature_of}
use Rattle.acpi_lint.proofs.OfTables.{of_found, of_not_found}
use Rattle.acpi_lint.proofs.passes.listed_fault.Goals as goal

pub returns-in_err-table : goal.returns-in_err-table
returns-in_err-table g c = λ m are.
    let none : c.from_residual.result ≡ None = search rules in
    rw none (of_not_found m c.args.policy.now.rsdp (signature_of c.args.kind)
    (λ whole at other point. g.E.TableEntry.IsFault c.args.policy.now whole c.args.code at other point)
    (are.listed c.args.kind) (sym c.table.ensures ∙ c.in_err-table.was))

pub returns : goal.returns
returns g c = λ m are.
    of_found m c.args.policy.now.rsdp (signature_of c.args.kind)
    (λ whole at other point. g.E.TableEntry.IsFault c.args.policy.now whole c.args.code at other point)
    c.table_fault.result (are.listed c.args.kind) (sym c.table.ensures ∙ c.in_ok-table.was) c.table_fault.ensures
