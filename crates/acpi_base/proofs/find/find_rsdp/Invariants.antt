use Rattle.std.proofs.Common.{◌≡◌, ◌≤◌, ◌<◌, ◌-◌, ◌%◌, ℕ, length}
use Rattle.acpi_base.specs.Image.Runs.{AreBytesFrom}
use Rattle.acpi_base.specs.RsdpSearch.{IsSearched, LooksLikeRsdp}
use Rattle.acpi_base.proofs.find.find_rsdp.Given as goal

-- nothing looks like an RSDP below the address at hand, and the bytes, if there are any, are those from there on
abbrev pub invariant-loop-address : goal.invariant-loop-address
invariant-loop-address l =
    (0xe0000 ≤ l.address) × (l.address ≤ 0x100000) × (l.address % 16 ≡ 0)
    × ((a : ℕ) → a < l.address → IsSearched a → LooksLikeRsdp l.image a → ⊥)
    × (0 < length l.run → AreBytesFrom l.image l.address l.run)

abbrev pub decreases-loop-address : goal.decreases-loop-address
decreases-loop-address l = 0x100001 - l.address
