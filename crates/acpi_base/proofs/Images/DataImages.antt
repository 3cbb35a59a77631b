-- What data makes of an image, byte by byte: the address of each byte, and that the image has it there.
use Rattle.std.proofs.Common.{◌≡◌, ◌⊎◌, inl, inr, ℕ, zero, suc, ◌+◌, ◌-◌, ◌^◌, ◌<◌, ◌≢◌, List, [], ◌∷◌, ◌++◌, length, refl, sym, ap, subst, ◌∙◌, arith, if◌then◌else◌}
use Rattle.std.proofs.lemmas.Bool.{cases_eq, cases_lt, lt-ltb, le-ltb, ltb-false}
use Rattle.std.proofs.lemmas.Bool.Decides.{nat_tests}
use Rattle.std.specs.Prelude.{Option, None, Some, IsSome, nat_lt, ◌↔◌}
use Rattle.std.specs.Option.{option_map}
use Rattle.std.specs.List.{slice_get}
use Rattle.std.specs.FinMap.{insert}
use Rattle.acpi_base.specs.Memory.{Memory, byte_of, first_present, with_bytes}
use Rattle.acpi_base.specs.Image.Adding.{add_refusal}
use Rattle.acpi_base.proofs.Images.RunMemory.{same_memory, fits_unless}
use Rattle.acpi_base.proofs.Images.Searches.{nothing_present}
use Rattle.acpi_base.proofs.Images.ByteRuns.{first_of_none}
use Rattle.acpi_base.proofs.Images.RunBytes.{byte_of-insert, byte_of-with_bytes, byte_of-with_bytes_outside}

-- ---- the addresses of bytes

-- the first bytes are at an address and the following ones, and the rest as `later` says
abbrev pub first_then : Option ℕ → ℕ → (ℕ → Option ℕ) → ℕ → Option ℕ
first_then next count later n = if nat_lt n count then option_map (λ a. a + n) next else later (n - count)

pub first_here : (next : Option ℕ) (count : ℕ) (later : ℕ → Option ℕ) (n : ℕ) → n < count
    → first_then next count later n ≡ option_map (λ a. a + n) next
first_here next count later n h = rw (lt-ltb n count h) refl

pub first_later : (next : Option ℕ) (count : ℕ) (later : ℕ → Option ℕ) (n : ℕ)
    → first_then next count later (count + n) ≡ later n
first_later next count later n = let q : count + n - count ≡ n = omega arith in
    rw (le-ltb (count + n) count (omega arith), q) refl

pub first_cases : (next : Option ℕ) (count : ℕ) (later : ℕ → Option ℕ) (n x : ℕ)
    → first_then next count later n ≡ Some x
    → ((n < count) × (option_map (λ a. a + n) next ≡ Some x)) ⊎ ((k : ℕ) × (n ≡ count + k) × (later k ≡ Some x))
first_cases next count later n x e = grind (arith, cases_lt, first_here, first_later)

-- ---- an image with bytes added at given addresses

-- the image has a byte, or data has it at the address that `place` gives
abbrev pub Given : (ℕ → Option ℕ) → List ℕ → Memory → ℕ → ℕ → Type 0
Given place bytes m a b = (byte_of m a ≡ Some b) ⊎ ((n : ℕ) × (place n ≡ Some a) × (slice_get bytes n ≡ Some b))

-- data with the addresses that `place` gives makes the image f of m
pub record Makes (place : ℕ → Option ℕ) (bytes : List ℕ) (m f : Memory) : Type 0 where
  pub stands : (n : ℕ) → n < length bytes → IsSome (place n)
  pub below : (n a : ℕ) → place n ≡ Some a → a < 2 ^ 64
  pub once : (n k a : ℕ) → place n ≡ Some a → place k ≡ Some a → n ≡ k
  pub free : (n a : ℕ) → place n ≡ Some a → byte_of m a ≡ None
  pub image : (a b : ℕ) → (byte_of f a ≡ Some b) ↔ Given place bytes m a b

-- ---- one more byte, at a

here : (m : Memory) (a b : ℕ) → byte_of (insert m a b) a ≡ Some b
here m a b = grind (arith, nat_tests, byte_of-insert m a b a)

other : (m : Memory) (a b x : ℕ) → x ≢ a → byte_of (insert m a b) x ≡ byte_of m x
other m a b x h = grind (arith, nat_tests, byte_of-insert m a b x)

-- the first byte is at a, and the rest as `later` says
abbrev place_then : ℕ → (ℕ → Option ℕ) → ℕ → Option ℕ
place_then a later zero = Some a
place_then a later (suc n) = later n

-- the byte can be in the image as well
into : (a b : ℕ) (later : ℕ → Option ℕ) (rest : List ℕ) (m : Memory) (x c : ℕ) → byte_of m a ≡ None
    → Given (place_then a later) (b ∷ rest) m x c → Given later rest (insert m a b) x c
into a b later rest m x c free (inl e) = grind (arith, cases_eq x a, other m a b x)
into a b later rest m x c free (inr (zero, p, d)) = grind (arith, here m a b)
into a b later rest m x c free (inr (suc n, p, d)) = inr (n, p, d)

out : (a b : ℕ) (later : ℕ → Option ℕ) (rest : List ℕ) (m : Memory) (x c : ℕ) → Given later rest (insert m a b) x c
    → Given (place_then a later) (b ∷ rest) m x c
out a b later rest m x c (inl e) =
    elim (cases_eq x a) [
      | inl s ↦ inr (0, ap Some (sym s), grind (arith, here m a b))
      | inr s ↦
          inl (sym (other m a b x s) ∙ e)
    ]
out a b later rest m x c (inr (n, p, d)) = inr (suc n, p, d)

one_more : (a b : ℕ) (later : ℕ → Option ℕ) (rest : List ℕ) (m f : Memory) → a < 2 ^ 64 → byte_of m a ≡ None
    → Makes later rest (insert m a b) f → Makes (place_then a later) (b ∷ rest) m f
one_more a b later rest m f low free made = record {
  stands = λ n h. elim n as (λ n. n < suc (length rest) → IsSome (place_then a later n)) [
    | zero ↦ λ h. refl
    | suc n ↦
        λ h. made.stands n (omega arith)
  ] h;
  below = elim [ zero ↦ λ x p. grind arith | suc n ↦ made.below n ];
  once = elim [
    | zero ↦ elim [ zero ↦ λ x p q. refl | suc k ↦ λ x p q. grind (arith, made.free k x q, here m a b) ]
    | suc n ↦ elim [
      | zero ↦ λ x p q. grind (arith, made.free n x p, here m a b)
      | suc k ↦
          λ x p q. ap suc (made.once n k x p q)
    ]
  ];
  free = elim [
    | zero ↦ λ x p. grind arith
    | suc n ↦ λ x p. grind
        (arith, made.free n x p, cases_eq x a, here m a b, other m a b x)
  ];
  image = λ x c. (
    λ e. out a b later rest m x c ((made.image x c).0 e),
    λ g. (made.image x c).1 (into a b later rest m x c free g),
  );
}

one_less : (a b : ℕ) (later : ℕ → Option ℕ) (rest : List ℕ) (m f : Memory) → Makes (place_then a later) (b ∷ rest) m f
    → (a < 2 ^ 64) × (byte_of m a ≡ None) × Makes later rest (insert m a b) f
one_less a b later rest m f made = (
  made.below 0 a refl,
  made.free 0 a refl,
  record {
    stands = λ n h. made.stands (suc n) (omega arith);
    below = λ n. made.below (suc n);
    once = λ n k x p q. (let same : suc n ≡ suc k = made.once (suc n) (suc k) x p q in omega arith);
    free = λ n x p. other m a b x
        (λ e. (let same : suc n ≡ 0 = made.once (suc n) 0 x p (ap Some (sym e)) in absurd (omega arith)))
        ∙ made.free (suc n) x p;
    image = λ x c. (
      λ e. into a b later rest m x c (made.free 0 a refl) ((made.image x c).0 e),
      λ g. (made.image x c).1 (out a b later rest m x c g),
    );
  },
)

-- ---- the bytes of a data line

row-zero : (next : Option ℕ) (later : ℕ → Option ℕ) → first_then next 0 later ≡ later
row-zero next later = λ i n. at n i
  where
    at : (n : ℕ) → first_then next 0 later n ≡ later n
    at n = grind (arith, nat_tests)

row-suc : (a count : ℕ) (later : ℕ → Option ℕ)
    → first_then (Some a) (suc count) later ≡ place_then a (first_then (Some (a + 1)) count later)
row-suc a count later = λ i n. at n i
  where
    at : (n : ℕ) → first_then (Some a) (suc count) later n ≡ place_then a (first_then (Some (a + 1)) count later) n
    at zero = first_here (Some a) (suc count) later 0 (omega arith) ∙ ap Some (omega arith)
    at (suc n) = grind (arith, nat_tests)

-- the bytes can be added: their addresses are below 2^64 and free
abbrev pub IsRoom : Memory → ℕ → List ℕ → Type 0
IsRoom m a bytes = (k : ℕ) → k < length bytes → (a + k < 2 ^ 64) × (byte_of m (a + k) ≡ None)

with_byte_first : (m : Memory) (a b : ℕ) (bytes : List ℕ)
    → with_bytes (insert m a b) (a + 1) bytes ≡ insert (with_bytes m (a + 1) bytes) a b
with_byte_first m a b bytes =
    same_memory (with_bytes (insert m a b) (a + 1) bytes) (insert (with_bytes m (a + 1) bytes) a b)
    (λ x. elim (cases_eq x a) [
      | inl s ↦ grind (
        arith,
        byte_of-with_bytes_outside (insert m a b) (a + 1) bytes x,
        here m a b,
        here (with_bytes m (a + 1) bytes) a b,
      )
      | inr s ↦ grind (
        arith,
        byte_of-with_bytes (insert m a b) (a + 1) bytes x,
        byte_of-with_bytes m (a + 1) bytes x,
        other m a b x s,
        other (with_bytes m (a + 1) bytes) a b x s,
      )
    ])

room_rest : (m : Memory) (a b : ℕ) (bytes : List ℕ) → IsRoom m a (b ∷ bytes) → IsRoom (insert m a b) (a + 1) bytes
room_rest m a b bytes room k h = grind (arith, room (suc k), other m a b (a + 1 + k))

room_more : (m : Memory) (a b : ℕ) (bytes : List ℕ) → a < 2 ^ 64 → byte_of m a ≡ None
    → IsRoom (insert m a b) (a + 1) bytes → IsRoom m a (b ∷ bytes)
room_more m a b bytes low free room zero h = grind arith
room_more m a b bytes low free room (suc k) h = grind (arith, room k, other m a b (a + suc k))

pub data_more : (a : ℕ) (bytes : List ℕ) (later : ℕ → Option ℕ) (rest : List ℕ) (m f : Memory) → IsRoom m a bytes
    → Makes later rest (with_bytes m a bytes) f
    → Makes (first_then (Some a) (length bytes) later) (bytes ++ rest) m f
unfolding with_bytes
data_more a [] later rest m f room made = rw (row-zero (Some a) later) made
data_more a (b ∷ bytes) later rest m f room made =
    let first = room 0 (omega arith) in
    let free : byte_of m a ≡ None = grind (arith, first) in
    rw (row-suc a (length bytes) later) (one_more a b _ _ m f (omega (arith, first.0)) free
    (data_more (a + 1) bytes later rest (insert m a b) f (room_rest m a b bytes room)
    (rw (with_byte_first m a b bytes) made)))

pub data_less : (a : ℕ) (bytes : List ℕ) (later : ℕ → Option ℕ) (rest : List ℕ) (m f : Memory)
    → Makes (first_then (Some a) (length bytes) later) (bytes ++ rest) m f
    → IsRoom m a bytes × Makes later rest (with_bytes m a bytes) f
unfolding with_bytes
data_less a [] later rest m f made =
    (λ k h. absurd (omega arith), subst (λ p. Makes p rest m f) (row-zero (Some a) later) made)
data_less a (b ∷ bytes) later rest m f made =
    let one = one_less a b _ (bytes ++ rest) m f
    (subst (λ p. Makes p (b ∷ (bytes ++ rest)) m f) (row-suc a (length bytes) later) made) in
    let more = data_less (a + 1) bytes later rest (insert m a b) f one.2 in
    (room_more m a b bytes one.0 one.1 more.0, subst (λ n. Makes later rest n f) (with_byte_first m a b bytes) more.1)

pub taken : (m : Memory) (a : ℕ) (bytes : List ℕ) → add_refusal m a bytes ≡ None → IsRoom m a bytes
taken m a bytes e k h =
    grind (
      arith,
      fits_unless (nat_lt (2 ^ 64) (a + length bytes)) (first_present m a (length bytes)) e,
      ltb-false (2 ^ 64) (a + length bytes),
      nothing_present (byte_of m) a (length bytes) (a + k),
    )

pub not_refused : (m : Memory) (a : ℕ) (bytes : List ℕ) → 0 < length bytes → IsRoom m a bytes
    → add_refusal m a bytes ≡ None
not_refused m a bytes some room =
    grind (
      arith,
      le-ltb (2 ^ 64) (a + length bytes),
      first_of_none (byte_of m) a (length bytes) (λ k h. (room k h).1),
      room (length bytes - 1),
    )
