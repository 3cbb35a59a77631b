use Rattle.std.proofs.Common.{◌-◌, ◌<◌, ◌≤◌}
use Rattle.acpi_base.specs.Image.Draft.{ComesTwice, IsOnceBefore}
use Rattle.acpi_base.proofs.image.draft.first_twice.Given as goal

-- the first `once` bytes have no address twice, and the first `twice` ones have this one
abbrev pub invariant-loop-twice : goal.invariant-loop-twice
invariant-loop-twice l =
    IsOnceBefore l.pieces l.once × ComesTwice l.pieces l.twice l.found × (l.once < l.twice) × (l.twice ≤ l.count)

abbrev pub decreases-loop-twice : goal.decreases-loop-twice
decreases-loop-twice l = l.twice - l.once
