use Rattle.std.proofs.Common.{◌≡◌, ◌++◌, drop}
use Rattle.std.specs.List.{filter_map}
use Rattle.acpi_lint.specs.Rules.McfgAdvice.{ecam_of}
use Rattle.acpi_lint.proofs.ecam.all_ecams.Given as goal

-- those so far, and those still to come
abbrev pub invariant-loop-entry : goal.invariant-loop-entry
invariant-loop-entry l =
    l.all.items ++ filter_map ecam_of (drop l.entry-index l.entries) ≡ filter_map ecam_of l.entries
