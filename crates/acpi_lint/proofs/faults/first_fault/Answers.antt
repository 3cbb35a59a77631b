use Rattle.std.proofs.Common.{sym, ◌∙◌}
use Rattle.acpi_lint.proofs.HeldStages.{none_of_held}
use Rattle.acpi_lint.proofs.faults.first_fault.Goals as goal

pub returns-then-has : goal.returns-then-has
returns-then-has c =
    none_of_held c.args.image.now c.args.policy.now c.args.code
    (rw c.stage.ensures at (c.requires.held c.stage.result (sym c.has.ensures ∙ c.if-has.true)))
