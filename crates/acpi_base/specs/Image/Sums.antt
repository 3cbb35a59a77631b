-- Running sums of the bytes of an image.
use Rattle.std.specs.Prelude.{◌≡◌, ℕ, List, length, take, ◌+◌, ◌*◌, ◌/◌, ◌<◌, slice_index, ◌-◌}
use Rattle.acpi_base.specs.Number.{byte_sum}

-- the first of the numbers is the sum, modulo 256, of the first 128 bytes, the next that of the first 256, and so on
abbrev pub AreSums : List ℕ → List ℕ → Type 0
AreSums sums bytes = (k : ℕ) → k < length sums → slice_index sums k ≡ byte_sum (take (128 * (k + 1)) bytes)

-- and there is one for each full 128 bytes
pub record HasAllSums (sums bytes : List ℕ) : Type 0 where
  pub count : length sums ≡ length bytes / 128
  pub each : AreSums sums bytes
