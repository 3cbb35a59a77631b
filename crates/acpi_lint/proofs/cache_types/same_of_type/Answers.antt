use Rattle.acpi_rules.proofs.FormFindings.{each_ok}
use Rattle.acpi_lint.proofs.cache_types.same_of_type.Goals as goal

pub returns : goal.returns
returns c =
    each_ok c.first_repeated.result (λ found least. rw c.in_ok-given.ensures at least) c.first_repeated.ensures.found
