use Rattle.std.proofs.Common.{◌≡◌}
use Rattle.acpi_rules.specs.Walks.{walk_of, placed}
use Rattle.acpi_rules.proofs.structures.cut_in.Given as goal

abbrev pub invariant-loop : goal.invariant-loop
invariant-loop l = l.structures.cut ≡ (walk_of l.fn.series (placed l.fn.inside)).cut
