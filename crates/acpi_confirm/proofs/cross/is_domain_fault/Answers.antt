use Rattle.std.proofs.Common.{sym, ◌∙◌}
use Rattle.std.proofs.lemmas.Bool.{false≢true}
use Rattle.acpi_confirm.proofs.cross.is_domain_fault.Goals as goal

pub returns-then-do_domains_differ : goal.returns-then-do_domains_differ
returns-then-do_domains_differ c =
    let (d, f, one, other, before, apart) = c.do_domains_differ.ensures.0 c.if-do_domains_differ.true in
    rw (c.in-TwoDomains.is, ← c.processors.ensures.value) (
      λ enabled. (c.has_enabled.ensures.0 enabled, d, f, one, other, before, apart),
      λ fault. c.has_enabled.ensures.1 fault.0,
    )

pub returns-else-do_domains_differ : goal.returns-else-do_domains_differ
returns-else-do_domains_differ c =
    rw c.in-TwoDomains.is (
      λ yes. absurd (false≢true (sym c.if-do_domains_differ.false ∙ yes)),
      λ (enabled, d, f, one, other, before, apart). c.do_domains_differ.ensures.1
          (d, f, one, other, before, apart),
    )
