-- Little-endian numbers, sums of bytes and bits of flags.
use Rattle.std.specs.Prelude.{ℕ, ◌/◌, ◌%◌, ◌^◌, Bool, List, drop, sum, ◌==◌}
use Rattle.byteorder.specs.Endian.{little_bytes, little_number}

-- the little-endian number in the `width` bytes from `offset` on (5.2); bytes past the end count as 0
unfoldable pub field : List ℕ → ℕ → ℕ → ℕ
field bytes offset width = little_number width (drop offset bytes)

-- the `width` bytes of a number, little-endian (5.2)
unfoldable pub number_bytes : ℕ → ℕ → List ℕ
number_bytes width number = little_bytes width number

-- the sum of the bytes modulo 256, which is 0 if a checksum is right (5.2.5.3, 5.2.6)
unfoldable pub byte_sum : List ℕ → ℕ
byte_sum bytes = sum bytes % 256

-- whether a bit of a field of flags is set; bit 0 is the lowest
unfoldable pub has_bit : ℕ → ℕ → Bool
has_bit flags bit = flags / 2 ^ bit % 2 == 1
