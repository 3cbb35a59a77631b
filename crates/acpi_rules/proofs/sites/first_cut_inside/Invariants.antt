use Rattle.std.proofs.Common.{◌≡◌, length}
use Rattle.acpi_rules.specs.Sites.{first_cut_inside}
use Rattle.acpi_rules.proofs.sites.first_cut_inside.Given as goal

abbrev pub invariant-loop-site : goal.invariant-loop-site
invariant-loop-site l = first_cut_inside l.row l.sites ≡ first_cut_inside l.row l.fn.sites

abbrev pub decreases-loop-site : goal.decreases-loop-site
decreases-loop-site l = length l.sites
