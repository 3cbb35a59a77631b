use Rattle.std.proofs.Common.{rules, ◌≡◌, Some, None}
use Rattle.acpi_lint.specs.Rules.RootAdvice.{IsOddRoot}
use Rattle.acpi_lint.proofs.RootSlots.{found_in_root, none_without_root}
use Rattle.acpi_lint.proofs.root_advice.root_header.Goals as goal

pub returns-in_err-as_ref : goal.returns-in_err-as_ref
returns-in_err-as_ref c = λ m p are.
    let none : c.args.tables.now.root ≡ None = search rules in
    rw c.from_residual.ensures (none_without_root IsOddRoot (rw none at are.root))

pub returns : goal.returns
returns c = λ m p are.
    let root = c.in_ok-as_ref.field-0.now in
    let some : c.args.tables.now.root ≡ Some root = search rules in
    let least = rw c.bytes.ensures.bytes at c.odd_root.ensures in
    found_in_root IsOddRoot root c.odd_root.result (rw some at are.root) (least root.width)
