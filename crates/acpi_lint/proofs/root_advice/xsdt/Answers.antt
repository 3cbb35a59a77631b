use Rattle.std.proofs.Common.{rules, ◌≡◌, None}
use Rattle.acpi_lint.proofs.RootTables.{no_xsdt}
use Rattle.acpi_lint.proofs.root_advice.xsdt.Goals as goal

pub returns-in_err-root-clause-root : goal.returns-in_err-root-clause-root
returns-in_err-root-clause-root c = λ m p are.
    let none : c.args.tables.now.root ≡ None = search rules in
    rw c.from_residual.ensures (no_xsdt (rw none at are.root))
