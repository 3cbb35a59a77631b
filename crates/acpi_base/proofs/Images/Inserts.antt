-- Bytes that are put among segments: the segments before them, the bytes, and the segments after them make one list.
use Rattle.std.proofs.Common.{◌≡◌, inl, inr, ℕ, zero, suc, ◌+◌, ◌<◌, ◌≤◌, List, [], ◌∷◌, length, get_or, take, drop, Option, None, IsSome, refl, ap, ◌∙◌, arith, length-drop}
use Rattle.std.specs.Option.{option_or}
use Rattle.std.specs.List.{AllByRecursion}
use Rattle.std.specs.FinMap.{empty}
use Rattle.std.proofs.lemmas.Bool.{cases_lt}
use Rattle.std.proofs.lemmas.List.{drop_all, length-take-le, get_or-take, get_or-drop}
use Rattle.acpi_base.specs.declared.image.segments.Segments.{Segments}
use Rattle.acpi_base.specs.Memory.{Memory, byte_of, with_bytes}
use Rattle.acpi_base.specs.Image.Runs.{run_at, byte_in, lookup}
use Rattle.acpi_base.specs.Image.Pieces.{Piece, AreSortedDisjoint, end_at, LiesBefore, runs_in}
use Rattle.acpi_base.specs.Image.Segments.{AreSegmentsApart, IsValid, IsPartitionPoint, IsGap, memory_in, runs_of}
use Rattle.acpi_base.proofs.Images.RunBytes.{present_some, present_inside, byte_of_memory_of, byte_of-with_bytes}
use Rattle.acpi_base.proofs.Images.Stores.{all_from, all_weaker, base_present}
use Rattle.acpi_base.proofs.Images.Searches.{ended_at, filled}
use Rattle.acpi_base.proofs.Images.RunMemory.{same_memory, no_bytes}

-- ---- a part of a list

all_taken : (P : Piece → Type 0) (ps : List Piece) (i : ℕ) → AllByRecursion P ps → AllByRecursion P (take i ps)
all_taken P ps zero all = tt
all_taken P [] (suc i) all = tt
all_taken P (p ∷ ps) (suc i) all = (all.0, all_taken P ps i all.1)

all_dropped : (P : Piece → Type 0) (ps : List Piece) (i : ℕ) → AllByRecursion P ps → AllByRecursion P (drop i ps)
all_dropped P ps zero all = all
all_dropped P [] (suc i) all = tt
all_dropped P (p ∷ ps) (suc i) all = all_dropped P ps i all.1

rising_taken : (ps : List Piece) (i : ℕ) → AreSegmentsApart ps → AreSortedDisjoint (take i ps)
rising_taken ps zero apart = tt
rising_taken [] (suc i) apart = tt
rising_taken (p ∷ ps) (suc i) apart =
    (apart.0, all_weaker _ _ (take i ps) (λ q h. omega arith) (all_taken _ ps i apart.1), rising_taken ps i apart.2)

rising_dropped : (ps : List Piece) (i : ℕ) → AreSegmentsApart ps → AreSortedDisjoint (drop i ps)
rising_dropped [] zero apart = tt
rising_dropped (p ∷ ps) zero apart =
    (apart.0, all_weaker _ _ ps (λ q h. omega arith) apart.1, rising_dropped ps zero apart.2)
rising_dropped [] (suc i) apart = tt
rising_dropped (p ∷ ps) (suc i) apart = rising_dropped ps i apart.2

lookup_parts : (store : List ℕ) (ps : List Piece) (i x : ℕ)
    → lookup (runs_in store ps) x ≡ option_or (lookup (runs_in store (take i ps)) x)
    (lookup (runs_in store (drop i ps)) x)
lookup_parts store ps zero x = refl
lookup_parts store [] (suc i) x = refl
lookup_parts store (p ∷ ps) (suc i) x = grind (arith, lookup_parts store ps i x)

-- ---- where the bytes go

-- the segments before an index end before n addresses from a on, and the others begin after them
pub record Parts (s : Segments) (a n i : ℕ) : Type 0 where
  pub low_rising : AreSortedDisjoint (take i s.ended.items)
  pub low_lies : AllByRecursion (LiesBefore (length s.store)) (take i s.ended.items)
  pub low_end : AllByRecursion (λ p. end_at p ≤ a) (take i s.ended.items)
  pub low_begin : AllByRecursion (λ p. 0 ≤ p.0) (take i s.ended.items)
  pub high_rising : AreSortedDisjoint (drop i s.ended.items)
  pub high_lies : AllByRecursion (LiesBefore (length s.store)) (drop i s.ended.items)
  pub high_begin : AllByRecursion (λ p. a + n ≤ p.0) (drop i s.ended.items)
  pub high_end : AllByRecursion (λ p. end_at p ≤ s.base) (drop i s.ended.items)
  pub last_begin : s.start < length s.store → a + n ≤ s.base

gap_in_ended : (s : Segments) (a b x : ℕ) → IsGap (runs_of s) a b → a ≤ x → x < b
    → lookup (runs_in s.store s.ended.items) x ≡ None
gap_in_ended s a b x gap l h = (let none = gap x l h in grind arith)

pub parts_at : (s : Segments) (a n i : ℕ) → IsValid s → a < s.base → 0 < n → IsGap (runs_of s) a (a + n)
    → i ≤ length s.ended.items → IsPartitionPoint s.ended.items a i → Parts s a n i
parts_at s a n i valid low some gap within place =
    let store = s.store in
    let ps = s.ended.items in
    let inside = valid.within in
    let lies = all_weaker (LiesBefore s.start) (LiesBefore (length store)) ps (λ p h. (let l = h.0 in omega arith, h.1))
    valid.lies in
    record {
      low_rising = rising_taken ps i valid.apart;
      low_lies = all_taken _ ps i lies;
      low_end = all_from _ (take i ps) (λ k d h.
          let short : length (take i ps) ≡ i = length-take-le i ps within in
          let k_low : k < i = omega arith in
          rw (get_or-take i ps k d k_low)
          (ended_at store s.start ps k a d inside valid.lies
          (gap_in_ended s a (a + n) a gap (omega arith) (omega arith)) (omega arith)
          (place.0 k d (omega arith) k_low)));
      low_begin = all_from _ (take i ps) (λ k d h. omega arith);
      high_rising = rising_dropped ps i valid.apart;
      high_lies = all_dropped _ ps i lies;
      high_begin = all_from _ (drop i ps) (λ k d h.
          let long = length-drop i ps in
          rw (get_or-drop i ps k d) (behind (i + k) d (omega arith) (omega arith)));
      high_end = all_dropped _ ps i (all_weaker _ (λ p. end_at p ≤ s.base) ps (λ p h. omega arith) valid.below);
      last_begin = λ open_some.
          let long = length-drop s.start store in
          elim (cases_lt s.base (a + n)) [
            | inl l ↦ absurd (let none = gap s.base (omega arith) l in
                let here = present_some (run_at s.base (drop s.start store)) s.base (omega arith) (omega arith) in
                grind arith)
            | inr l ↦ l
          ];
    }
  where
    behind : (k : ℕ) (d : Piece) → i ≤ k → k < length s.ended.items → a + n ≤ (get_or s.ended.items k d).0
    behind k d l h = elim (cases_lt (get_or s.ended.items k d).0 (a + n)) [
      | inl m ↦ absurd (
          let above = place.1 k d l h in
          let none = gap_in_ended s a (a + n) (get_or s.ended.items k d).0 gap (omega arith) m in
          let here = base_present s.store s.start s.ended.items k d valid.within valid.lies h
          (filled s.ended.items k d valid.apart h) in
          grind arith)
      | inr m ↦ m
    ]

-- ---- all of them together

-- the bytes are put in where nothing was present
pub put_among : (s : Segments) (a i : ℕ) (bs : List ℕ) (m0 m1 m2 m3 : Memory) → IsGap (runs_of s) a (a + length bs)
    → m0 ≡ empty
    → ((x : ℕ) → byte_of m1 x ≡ option_or (byte_of m0 x) (lookup (runs_in s.store (take i s.ended.items)) x))
    → m2 ≡ with_bytes m1 a bs
    → ((x : ℕ) → byte_of m3 x ≡ option_or (byte_of m2 x) (lookup (runs_in s.store (drop i s.ended.items)) x))
    → with_bytes m3 s.base (drop s.start s.store) ≡ with_bytes (memory_in s) a bs
put_among s a i bs m0 m1 m2 m3 gap e0 e1 e2 e3 = same_memory _ _ (λ x.
    let here = present_inside (run_at a bs) x in
    let free = gap x in
    let nothing : byte_of m0 x ≡ None = ap (λ m. byte_of m x) e0 ∙ byte_of_memory_of [] x in
    let second : byte_of m2 x ≡ option_or (byte_in (run_at a bs) x) (byte_of m1 x) =
    ap (λ m. byte_of m x) e2 ∙ byte_of-with_bytes m1 a bs x in
    let old = byte_of_memory_of (runs_of s) x in
    composed (byte_in (run_at a bs) x) (byte_in (run_at s.base (drop s.start s.store)) x)
    (lookup (runs_in s.store (take i s.ended.items)) x)
    (lookup (runs_in s.store (drop i s.ended.items)) x) (lookup (runs_in s.store s.ended.items) x) (byte_of m0 x)
    (byte_of m1 x) (byte_of m2 x) (byte_of m3 x)
    (byte_of (memory_in s) x) _ _ (lookup_parts s.store s.ended.items i x) nothing (e1 x) second (e3 x) old
    (byte_of-with_bytes m3 s.base (drop s.start s.store) x) (byte_of-with_bytes (memory_in s) a bs x)
    (λ some. (let within = here some in free within.0 within.1)))
  where
    composed : (new last low high all b0 b1 b2 b3 was left right : Option ℕ) → all ≡ option_or low high → b0 ≡ None
        → b1 ≡ option_or b0 low → b2 ≡ option_or new b1
        → b3 ≡ option_or b2 high → was ≡ option_or last all → left ≡ option_or last b3 → right ≡ option_or new was
        → (IsSome new → option_or last all ≡ None) → left ≡ right
    composed new last low high all b0 b1 b2 b3 was left right p q r t u v w z free = grind arith

pub put_last : (s : Segments) (m : Memory) → length s.store ≤ s.start → m ≡ with_bytes m s.base (drop s.start s.store)
put_last s m none = no_bytes m s.base (drop s.start s.store) (ap length (drop_all s.start s.store none))
