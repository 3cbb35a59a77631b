-- Places of a FADT's fields that are tested one by one (ACPI 6.5, 5.2.9).
use Rattle.std.specs.Prelude.{◌≡◌, ℕ}
use Rattle.acpi_lint.specs.Rules.FadtBlocks.{block_at}

-- `at` is the offset of the 4-byte address of register block k, for which `Is` holds
abbrev pub IsOfBlock : (ℕ → ℕ → ℕ → Type 0) → ℕ → ℕ → ℕ → ℕ → Type 0
IsOfBlock Is k at other point = (at ≡ block_at k) × Is k other point
