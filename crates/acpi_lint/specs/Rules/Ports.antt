-- Register blocks that share a port (ACPI 6.5, 5.2.9).
use Rattle.std.specs.Prelude.{◌≡◌, ℕ, List, [], ◌∷◌, Contains, map, false}
use Rattle.acpi_base.specs.Fadt.{is_reduced}
use Rattle.acpi_rules.specs.Overlaps.{IsOverlap}
use Rattle.acpi_rules.specs.declared.numbered.Numbered.{Numbered}
use Rattle.acpi_rules.specs.declared.overlap.Range.TheVariants as range
use Rattle.acpi_lint.specs.Rules.FadtBlocks.{block_at, block_address, port_bytes}

-- what block k has of system I/O, from its first port on; its place is the offset of its 4-byte field
abbrev pub block_range : List ℕ → ℕ → Numbered
block_range whole k = record { number = block_address whole k; at = block_at k; value = port_bytes whole k }

-- the numbers of the blocks
abbrev pub blocks : List ℕ
blocks = 0 ∷ 1 ∷ 2 ∷ 3 ∷ 4 ∷ 5 ∷ 6 ∷ 7 ∷ []

abbrev pub block_ranges : List ℕ → List Numbered
block_ranges whole = map (block_range whole) blocks

-- two blocks have a port in common, the lowest of which is `point`; applies if the hardware is not reduced
abbrev pub IsPortsOverlap : List ℕ → ℕ → ℕ → ℕ → Type 0
IsPortsOverlap whole at other point =
    (is_reduced whole ≡ false) × IsOverlap range.Count (λ g. Contains (block_ranges whole) g) at other point
