-- A memory image: which byte each present address has.
use Rattle.std.specs.Prelude.{◌≡◌, ℕ, zero, suc, ◌+◌, ◌^◌, ◌<◌, List, [], ◌∷◌, length, slice_index, Option, Some, None, IsSome, is_some, if◌then◌else◌}
use Rattle.std.specs.Option.{option_map}
use Rattle.std.specs.Ordering.{nat_cmp}
use Rattle.std.specs.FinMap.{FinMap, get, insert}

-- a finite map from address to byte
abbrev pub Memory : Type 0
Memory = FinMap nat_cmp ℕ

-- the byte at an address, if it has one
abbrev pub byte_of : Memory → ℕ → Option ℕ
byte_of m a = get m a

-- an image of a machine with 64-bit addresses: each address is below 2^64, and each byte below 256
pub record IsImage (m : Memory) : Type 0 where
  pub addresses : (a b : ℕ) → byte_of m a ≡ Some b → a < 2 ^ 64
  pub bytes : (a b : ℕ) → byte_of m a ≡ Some b → b < 256

-- each of the n addresses from a on has a byte
abbrev pub Has : Memory → ℕ → ℕ → Type 0
Has m a n = (k : ℕ) → k < n → IsSome (byte_of m (a + k))

-- these are the n bytes from a on
pub record AreBytes (m : Memory) (a n : ℕ) (bytes : List ℕ) : Type 0 where
  pub count : length bytes ≡ n
  pub each : (k : ℕ) → k < n → byte_of m (a + k) ≡ Some (slice_index bytes k)

-- an element before the rest, if both are present
unfoldable pub cons_both : Option ℕ → Option (List ℕ) → Option (List ℕ)
cons_both None rest = None
cons_both (Some b) rest = option_map (λ bs. b ∷ bs) rest

-- what f has at n numbers from a on, if it has something at each
unfoldable pub run_of : (ℕ → Option ℕ) → ℕ → ℕ → Option (List ℕ)
run_of f a zero = Some []
run_of f a (suc n) = cons_both (f a) (run_of f (a + 1) n)

-- the n bytes from a on, if all are present: the form that proofs compute with. `acpi_base::laws::present_bytes` relates it
-- to `Has` and `AreBytes`.
abbrev pub bytes_at : Memory → ℕ → ℕ → Option (List ℕ)
bytes_at m a n = run_of (byte_of m) a n

-- the image with these bytes added from a on
unfoldable pub with_bytes : Memory → ℕ → List ℕ → Memory
with_bytes m a [] = m
with_bytes m a (b ∷ bs) = insert (with_bytes m (a + 1) bs) a b

-- the lowest of n numbers from a on at which f has something
unfoldable pub least_defined : (ℕ → Option ℕ) → ℕ → ℕ → Option ℕ
least_defined f a zero = None
least_defined f a (suc n) = if is_some (f a) then Some a else least_defined f (a + 1) n

-- the lowest of the n addresses from a on that has a byte
abbrev pub first_present : Memory → ℕ → ℕ → Option ℕ
first_present m a n = least_defined (byte_of m) a n
