use Rattle.std.proofs.Common.{◌∙◌}
use Rattle.std.proofs.lemmas.List.{get_or_default}
use Rattle.acpi_base.specs.Madt.{madt_contents}
use Rattle.acpi_base.specs.Srat.{srat_contents}
use Rattle.acpi_check.proofs.ProcessorNumbers.DomainsFaults.{one_domain_each, two_domains}
use Rattle.acpi_check.proofs.domains.check_domains.Goals as goal

pub returns-in-None : goal.returns-in-None
returns-in-None c =
    one_domain_each c.args.processors (madt_contents c.args.madt.now) (srat_contents c.args.srat.now)
    c.in_ok-numbers.numbers.items c.in_ok-numbers.ensures
    (rw (c.deref.ensures.value, c.in-None.is) at c.in_ok-first_other_domain.ensures.found)

pub returns : goal.returns
returns c =
    let numbers = c.in_ok-numbers.numbers.items in
    let found = rw (c.deref.ensures.value, c.in-Some.is) at c.in_ok-first_other_domain.ensures.found in
    let inside = rw (c.deref.ensures.value, c.in-Some.is) at c.in_ok-first_other_domain.ensures.inside in
    rw (c.index.ensures ∙ get_or_default numbers c.in-Some.found.key c.index.result.now 0 inside)
    (two_domains c.args.processors (madt_contents c.args.madt.now) (srat_contents c.args.srat.now) numbers
    c.in_ok-numbers.ensures c.in-Some.found inside found)
