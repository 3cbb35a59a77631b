use Rattle.std.proofs.Common.{arith}
use Rattle.std.proofs.lemmas.Bool.Decides.{nat_tests}
use Rattle.acpi_confirm.proofs.EntriesAt.{differ, test_of_two}
use Rattle.acpi_confirm.proofs.cross.do_domains_differ.Goals as goal

pub returns-then-earlier-at : goal.returns-then-earlier-at
returns-then-earlier-at c =
    differ c.if-earlier-at.true
    (test_of_two _ _ _ _ c.domain_at.result c.domain_at-then-earlier-at.result c.zip.result c.is_some_and.result
    c.domain_at.ensures c.domain_at-then-earlier-at.ensures c.zip.ensures c.is_some_and.ensures
    (λ pair says. grind (arith, nat_tests)))
