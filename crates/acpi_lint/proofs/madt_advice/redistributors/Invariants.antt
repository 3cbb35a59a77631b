use Rattle.std.proofs.Common.{◌≡◌, ◌*◌, ◌≤◌, take}
use Rattle.std.specs.Prelude.{◌/◌, sum_by}
use Rattle.acpi_lint.proofs.madt_advice.redistributors.Given as goal

-- the redistributors so far, of which each length has fewer than 2^47
abbrev pub invariant-loop-length : goal.invariant-loop-length
invariant-loop-length l =
    (l.count ≡ sum_by (λ g. g.number / 0x20000) (take l.length-index l.lengths))
    × (l.count ≤ l.length-index * 0x800000000000)
