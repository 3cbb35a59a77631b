use Rattle.acpi_check.proofs.SetFaults.Headlines.{yes_found, no_found}
use Rattle.acpi_check.proofs.stages.check.Goals as goal

pub returns-clause-yes : goal.returns-clause-yes
returns-clause-yes c = yes_found c.args.image.now c.args.policy.now c.check_to.result c.check_to.ensures.verdict

pub returns-clause-no : goal.returns-clause-no
returns-clause-no c = no_found c.args.image.now c.args.policy.now c.check_to.result c.check_to.ensures.verdict
