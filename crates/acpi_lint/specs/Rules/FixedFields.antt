-- Fields and reserved bytes of a structure that have no meaning. Offsets are from its start: `at` is a field's, and `point` the
-- number that is there.
use Rattle.std.specs.Prelude.{◌≡◌, ◌≢◌, ℕ, ◌<◌, ◌≤◌, List}
use Rattle.acpi_base.specs.Number.{field}

-- the number of this width at `offset` is above the greatest one that has a meaning
abbrev pub IsAbove : List ℕ → ℕ → ℕ → ℕ → ℕ → ℕ → ℕ → Type 0
IsAbove whole offset width greatest at other point =
    (at ≡ offset) × (other ≡ 0) × (point ≡ field whole offset width) × (greatest < point)

-- a byte from `start` up to `end`, which are reserved, is not 0
abbrev pub IsUsed : List ℕ → ℕ → ℕ → ℕ → ℕ → ℕ → Type 0
IsUsed whole start end at other point =
    (start ≤ at) × (at < end) × (other ≡ 0) × (point ≡ field whole at 1) × (point ≢ 0)
