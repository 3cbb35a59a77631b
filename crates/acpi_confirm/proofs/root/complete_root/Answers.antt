use Rattle.std.proofs.Common.{rules, ◌≡◌, ℕ, None, subst}
use Rattle.acpi_base.specs.Tables.{IsTable}
use Rattle.acpi_confirm.proofs.root.complete_root.Goals as goal

pub returns-in_err-place-clause-found : goal.returns-in_err-place-clause-found
returns-in_err-place-clause-found c =
    let none : c.from_residual.result ≡ None = search rules in
    rw none (λ d bytes whole. c.in_err-place.ensures.found whole.r d whole.root)

pub returns-in_err-bytes-clause-found : goal.returns-in_err-bytes-clause-found
returns-in_err-bytes-clause-found c =
    let none : c.from_residual-in_err-bytes.result ≡ None = search rules in
    let one = c.in_ok-place.ensures.one in
    rw none
    (λ d bytes whole.
    let table = subst (λ (r : ℕ). IsTable c.args.image.now r whole.table.header bytes) (one whole.r d whole.root).0
    whole.table.table in
    c.in_err-bytes.ensures.found whole.table.header bytes table)
