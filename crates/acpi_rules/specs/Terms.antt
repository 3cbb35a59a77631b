-- The numbers that rules compare and findings show.
use Rattle.std.specs.Prelude.{ℕ, ◌+◌, ◌*◌, ◌-◌, ◌^◌, ◌==◌, List, length, drop, Option, Some, None, option_map, bit_and, min, nat_le, if◌then◌else◌}
use Rattle.std.specs.List.{position_or_len}
use Rattle.acpi_rules.specs.Fields.{reading}
use Rattle.acpi_rules.specs.Sites.{SiteValue, whole_table}
use Rattle.acpi_rules.specs.Walks.{Placed, end_of_placed}
use Rattle.acpi_rules.specs.declared.field.Field.{Field}
use Rattle.acpi_rules.specs.declared.term.Tables.{Tables}
use Rattle.acpi_rules.specs.declared.term.Within.{Within}
use Rattle.acpi_rules.specs.declared.term.Within.TheVariants as within
use Rattle.acpi_rules.specs.declared.term.Value.{Value}
use Rattle.acpi_rules.specs.declared.term.Value.TheVariants as value

-- the bytes of the table that a rule is about, and those of the other one that it looks at
pub record TwoTables : Type 0 where
  pub table : List ℕ
  pub other : List ℕ

abbrev pub tables_value : Tables → TwoTables
tables_value t = record { table = t.table.bytes.now; other = t.other.bytes.now }

-- the structure, or the table, that a number is in
abbrev pub window_of : TwoTables → SiteValue → Within → Placed
window_of t s within.Own = s.own
window_of t s within.Around = s.around
window_of t s within.Outer = s.outer
window_of t s within.Table = whole_table t.table
window_of t s within.Other = whole_table t.other

-- an operation on two numbers, if both are there
abbrev pub of_both : (ℕ → ℕ → ℕ) → Option ℕ → Option ℕ → Option ℕ
of_both f (Some m) (Some n) = Some (f m n)
of_both f _ _ = None

-- a number, or 2 ^ 64 - 1 if it is above that
abbrev pub within_64_bits : ℕ → ℕ
within_64_bits n = min n (2 ^ 64 - 1)

-- the bits of a field that are set in a mask
abbrev pub bits_in : List ℕ → Field → ℕ → Option ℕ
bits_in bytes f mask = option_map (λ n. bit_and n mask) (reading f bytes)

-- a multiple of a number, with what is added to it, and the product of two, of numbers that are there
abbrev pub sum_of : Option ℕ → ℕ → Option ℕ → Option ℕ
sum_of number times added = of_both (λ m n. within_64_bits (n + times * m)) number added

abbrev pub product : Option ℕ → Option ℕ → Option ℕ
product = of_both (λ m n. within_64_bits (m * n))

-- how many bytes a structure with a matrix has: 4 for each row and each column, and 2 for each cell
abbrev pub matrix_in : List ℕ → ℕ → Field → Field → Option ℕ
matrix_in bytes base rows columns =
    of_both (λ m n. within_64_bits (base + 4 * (m + n) + 2 * (m * n))) (reading rows bytes) (reading columns bytes)

-- the number of a field, told apart by the offset of a structure
abbrev pub keyed_in : ℕ → List ℕ → Field → Option ℕ
keyed_in at bytes f = option_map (λ n. within_64_bits (2 ^ 32 * at + n)) (reading f bytes)

-- the numbers of two fields as one
abbrev pub pair_in : List ℕ → Field → Field → Option ℕ
pair_in bytes one other =
    of_both (λ m n. within_64_bits (2 ^ 32 * m + n)) (reading one bytes) (reading other bytes)

-- how far the sum of two fields is above 2 ^ 64
abbrev pub excess_in : List ℕ → Field → Field → Option ℕ
excess_in bytes one other = of_both (λ m n. m + n - 2 ^ 64) (reading one bytes) (reading other bytes)

-- the offset of the first byte that is 0, from an offset on; how many bytes there are if none is
abbrev pub first_zero : List ℕ → ℕ → Option ℕ
first_zero bytes from =
    if nat_le from (length bytes)
    then Some (from + position_or_len (λ byte. byte == 0) (drop from bytes))
    else None

-- the number of a value, if its fields are there
unfoldable pub value_number : TwoTables → SiteValue → Value → Option ℕ
value_number t s (value.Number n) = Some n
value_number t s value.Largest = Some (2 ^ 64 - 1)
value_number t s (value.Of w f) = reading f (window_of t s w).entry
value_number t s (value.Bits w f mask) = bits_in (window_of t s w).entry f mask
value_number t s (value.Length w) = Some (length (window_of t s w).entry)
value_number t s (value.Behind w n) =
    let size = length (window_of t s w).entry in if nat_le n size then Some (size - n) else None
value_number t s (value.Offset w n) = Some ((window_of t s w).offset + n)
value_number t s (value.End w) = Some (end_of_placed (window_of t s w))
value_number t s (value.Sum w f times n) = sum_of (reading f (window_of t s w).entry) times (Some n)
value_number t s (value.SumOf w f times g) =
    let bytes = (window_of t s w).entry in sum_of (reading f bytes) times (reading g bytes)
value_number t s (value.SumBits w times mask f g) =
    let bytes = (window_of t s w).entry in sum_of (reading f bytes) times (bits_in bytes g mask)
value_number t s (value.Product w one other) = product (reading one (window_of t s w).entry) (reading other s.own.entry)
value_number t s (value.Product3 one other third) =
    product (product (reading one s.own.entry) (reading other s.own.entry)) (reading third s.own.entry)
value_number t s (value.Matrix w base rows columns) = matrix_in (window_of t s w).entry base rows columns
value_number t s (value.Keyed w f) = keyed_in (window_of t s w).offset s.own.entry f
value_number t s (value.Pair one other) = pair_in s.own.entry one other
value_number t s (value.Excess one other) = excess_in s.own.entry one other
value_number t s (value.FirstZero w from) = first_zero (window_of t s w).entry from
