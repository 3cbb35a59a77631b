-- The bytes of an image: as runs, and from an address on.
use Rattle.std.specs.Prelude.{◌≡◌, ℕ, List, length, take, Some, None, nat_lt, if◌then◌else◌, ◌+◌, ◌<◌, ◌-◌, ◌^◌, ◌≤◌, [], ◌∷◌, slice_get, Option}
use Rattle.std.specs.Option.{option_or}
use Rattle.std.specs.List.{AllByRecursion}
use Rattle.std.specs.FinMap.{empty}
use Rattle.acpi_base.specs.Memory.{Memory, bytes_at, with_bytes}

-- ---- the bytes of an image from an address on

-- these are the bytes from a on, up to the first address without one: n bytes are present from a on exactly if these are at
-- least n, and then they are the first n of these
abbrev pub AreBytesFrom : Memory → ℕ → List ℕ → Type 0
AreBytesFrom m a bytes = (n : ℕ) → bytes_at m a n ≡ (if nat_lt (length bytes) n then None else Some (take n bytes))

-- ---- the bytes of an image as runs

-- bytes, from an address on
pub record Run : Type 0 where
  pub base : ℕ
  pub bytes : List ℕ

abbrev pub run_at : ℕ → List ℕ → Run
run_at a bs = record { base = a; bytes = bs }

-- the address after the last one
abbrev pub end_of : Run → ℕ
end_of r = r.base + length r.bytes

-- the byte that a run has at an address
abbrev pub byte_in : Run → ℕ → Option ℕ
byte_in r a = if nat_lt a r.base then None else slice_get r.bytes (a - r.base)

-- the byte that the first run with an address has there
abbrev pub lookup : List Run → ℕ → Option ℕ
lookup [] a = None
lookup (r ∷ rs) a = option_or (byte_in r a) (lookup rs a)

-- all bytes of the runs
abbrev pub memory_of : List Run → Memory
memory_of [] = empty
memory_of (r ∷ rs) = with_bytes (memory_of rs) r.base r.bytes

-- a run that is not empty, of bytes, below the address 2^64
pub record IsComplete (r : Run) : Type 0 where
  pub filled : 0 < length r.bytes
  pub fits : end_of r ≤ 2 ^ 64
  pub bytes : AllByRecursion (λ b. b < 256) r.bytes
