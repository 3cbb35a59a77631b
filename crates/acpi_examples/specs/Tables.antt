-- Examples of tables, each worked out by hand from the rules: their bytes, what they say, and their faults.
use Rattle.std.specs.Prelude.{◌≡◌, ℕ, List, ◌∷◌, ◌++◌, length, replicate}
use Rattle.acpi_base.specs.Number.{field, byte_sum}
use Rattle.acpi_base.specs.Entries.{PlacedEntry}

-- a table with this signature, Length, Revision and checksum
abbrev pub table : List ℕ → ℕ → ℕ → ℕ → List ℕ → List ℕ
table signature size revision checksum body =
    signature ++ size ∷ 0 ∷ 0 ∷ 0 ∷ revision ∷ checksum
    ∷ replicate 14 0x41
    ++ 1 ∷ 0 ∷ 0 ∷ 0 ∷ 0x41 ∷ 0x41 ∷ 0x41 ∷ 0x41 ∷ 1 ∷ 0 ∷ 0 ∷ 0
    ∷ body

-- an entry at an offset
abbrev pub placed_entry : {E : Type 0} → ℕ → E → PlacedEntry E
placed_entry offset entry = record { offset = offset; entry = entry }

-- the bytes sum to 0 and are as many as Length says
abbrev pub IsValidExample : List ℕ → Type 0
IsValidExample bytes = (byte_sum bytes ≡ 0) × (field bytes 4 4 ≡ length bytes)
