use Rattle.acpi_rules.specs.Terms.{tables_value}
use Rattle.acpi_lint.proofs.NearestCaches.{pairs_lead}
use Rattle.acpi_lint.proofs.cache_types.pairs_in.Goals as goal

pub returns-clause-pairs : goal.returns-clause-pairs
returns-clause-pairs c =
    pairs_lead (tables_value c.args.tables.now) c.args.resources.now c.in_ok-caches.caches.items
    c.sort_numbers.new.given.items c.in_ok-caches.ensures.order c.requires c.in_ok-caches.ensures.all
    (rw (c.in_ok-pairs.ensures, c.deref.ensures.value) at c.sort_numbers.ensures.permutation)
