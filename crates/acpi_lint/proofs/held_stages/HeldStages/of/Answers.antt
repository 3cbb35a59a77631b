use Rattle.acpi_lint.proofs.HeldStages.{held_stages}
use Rattle.acpi_lint.proofs.held_stages.HeldStages.of.Goals as goal

pub returns-in_ok-are_references_valid-clause-held : goal.returns-in_ok-are_references_valid-clause-held
returns-in_ok-are_references_valid-clause-held c =
    held_stages _ c.args.tables.now c.args.policy.now c.are_valid.ensures c.are_valid-2.ensures c.are_valid-pptt.ensures
    c.in_ok-are_references_valid.ensures.found

pub returns-else-pptt-clause-held : goal.returns-else-pptt-clause-held
returns-else-pptt-clause-held c =
    held_stages _ c.args.tables.now c.args.policy.now c.are_valid.ensures c.are_valid-2.ensures c.are_valid-pptt.ensures
    (λ is. absurd cc)
