use Rattle.std.proofs.Common.{ℕ, ◌<◌, ◌≡◌, ◌≤◌}
use Rattle.acpi_base.specs.Number.{field}
use Rattle.acpi_lint.proofs.limits.used.Given as goal

-- the bytes before this one are 0
abbrev pub invariant-loop-at : goal.invariant-loop-at
invariant-loop-at l = (k : ℕ) → l.fn.start ≤ k → k < l.at → field l.fn.bytes k 1 ≡ 0
