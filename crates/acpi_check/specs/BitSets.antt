-- Sets of numbers, as bits of words.
use Rattle.std.specs.Prelude.{◌≡◌, ◌⊎◌, ◌↔◌, ℕ, ◌/◌, ◌%◌, Bool, true, false, List, slice_index}
use Rattle.std.specs.Int.{bit_at}
use Rattle.acpi_check.specs.declared.bit_set.BitSet.{BitSet}

-- the bit of a number is set
abbrev pub HasBit : List ℕ → ℕ → Type 0
HasBit words n = bit_at (slice_index words (n / 64)) (n % 64) ≡ 1

-- the number is in the set
unfoldable pub IsIn : BitSet → ℕ → Type 0
IsIn set n = HasBit set.words.items n

-- if it is to be added, the number is added to those that are in the set; otherwise they stay the same
abbrev pub Adds : Bool → ℕ → BitSet → BitSet → Type 0
Adds true number old new = (n : ℕ) → IsIn new n ↔ ((n ≡ number) ⊎ IsIn old n)
Adds false number old new = (n : ℕ) → IsIn new n ↔ IsIn old n
