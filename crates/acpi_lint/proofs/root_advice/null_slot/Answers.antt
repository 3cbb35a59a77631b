use Rattle.std.proofs.Common.{rules, ◌≡◌, Some, None}
use Rattle.acpi_lint.specs.Rules.RootAdvice.{IsNullIn}
use Rattle.acpi_lint.proofs.RootSlots.{found_in_root, none_without_root}
use Rattle.acpi_lint.proofs.root_advice.null_slot.Goals as goal

pub returns-in_err-as_ref : goal.returns-in_err-as_ref
returns-in_err-as_ref c = λ m p are.
    let none : c.args.tables.now.root ≡ None = search rules in
    rw c.from_residual.ensures (none_without_root IsNullIn (rw none at are.root))

pub returns : goal.returns
returns c = λ m p are.
    let root = c.in_ok-as_ref.field-0.now in
    let some : c.args.tables.now.root ≡ Some root = search rules in
    found_in_root IsNullIn root c.null_in.result (rw some at are.root) c.null_in.ensures
