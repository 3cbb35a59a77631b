use Rattle.std.proofs.Common.{◌≡◌, [], length}
use Rattle.acpi_rules.specs.Sites.{sites_inside_all}
use Rattle.acpi_rules.proofs.sites.enter_series.Given as goal

abbrev pub invariant-loop-around : goal.invariant-loop-around
invariant-loop-around l =
    (sites_inside_all l.row l.outers ≡ sites_inside_all l.row l.fn.outers) × (l.inner ≡ [])

abbrev pub decreases-loop-around : goal.decreases-loop-around
decreases-loop-around l = length l.outers
