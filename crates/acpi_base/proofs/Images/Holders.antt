-- How many pieces have an address, and what they have there.
use Rattle.std.proofs.Common.{◌≡◌, ◌⊎◌, inl, inr, ℕ, zero, suc, ◌+◌, ◌<◌, ◌≤◌, List, [], ◌∷◌, ◌++◌, length, get_or, Option, Some, None, refl, sym, ap, ◌∙◌, arith}
use Rattle.std.specs.Option.{option_or}
use Rattle.std.specs.List.{AllByRecursion, sum_by}
use Rattle.std.specs.List.Sorted.{IsPermutation, IsNonDecreasingBy}
use Rattle.std.proofs.lemmas.Bool.{cases_lt}
use Rattle.std.proofs.lemmas.Bool.Decides.{nat_tests}
use Rattle.std.proofs.lemmas.List.Elements.{All-from_recursion, recursion_from_All}
use Rattle.std.proofs.lemmas.List.Sums.{sum_by-cons}
use Rattle.std.proofs.lemmas.List.Sorted.{All-permutation, sum_by-IsPermutation}
use Rattle.acpi_base.specs.Image.Runs.{byte_in, lookup, memory_of}
use Rattle.acpi_base.specs.Image.Pieces.{Piece, AreSortedDisjoint, end_at, LiesBefore, run_in, runs_in}
use Rattle.acpi_base.specs.Image.Draft.{AreDisjoint, holds_at, holder_count}
use Rattle.acpi_base.proofs.Images.RunBytes.{present_none, byte_of_memory_of}
use Rattle.acpi_base.proofs.Images.Stores.{all_from, of_all, run_ends}
use Rattle.acpi_base.proofs.Images.RunMemory.{same_memory}

-- ---- one piece

pub has_within : (x : ℕ) (p : Piece) → p.0 ≤ x → x < end_at p → holds_at x p ≡ 1
has_within x p l h = grind (arith, nat_tests)

pub has_outside : (x : ℕ) (p : Piece) → (x < p.0) ⊎ (end_at p ≤ x) → holds_at x p ≡ 0
has_outside x p (inl l) = grind (arith, nat_tests)
has_outside x p (inr l) = grind (arith, nat_tests)

pub has_or_not : (x : ℕ) (p : Piece) → ((holds_at x p ≡ 1) × (p.0 ≤ x) × (x < end_at p))
    ⊎ ((holds_at x p ≡ 0) × ((x < p.0) ⊎ (end_at p ≤ x)))
has_or_not x p = elim (cases_lt x p.0) [
  | inl l ↦ inr (has_outside x p (inl l), inl l)
  | inr l ↦ elim (cases_lt x (end_at p)) [
    | inl h ↦ inl (has_within x p l h, l, h)
    | inr h ↦
        inr (has_outside x p (inr h), inr h)
  ]
]

pub holds_none : (store : List ℕ) (n : ℕ) (p : Piece) (x : ℕ) → n ≤ length store → LiesBefore n p → holds_at x p ≡ 0
    → byte_in (run_in store p) x ≡ None
holds_none store n p x l lies none =
    let ends = run_ends store p n l lies in
    elim (has_or_not x p) [
      | inl y ↦ absurd (let one = y.0 in omega arith)
      | inr y ↦ present_none (run_in store p) x (elim y.1 [ inl low ↦ inl low | inr high ↦ inr (omega arith) ])
    ]

-- ---- many pieces

pub lookup_none : (store : List ℕ) (n : ℕ) (ps : List Piece) (x : ℕ) → n ≤ length store
    → AllByRecursion (LiesBefore n) ps → holder_count ps x ≡ 0 → lookup (runs_in store ps) x ≡ None
lookup_none store n [] x l lies none = refl
lookup_none store n (p ∷ ps) x l lies none =
    rw (holds_none store n p x l lies.0 (omega arith)) (lookup_none store n ps x l lies.1 (omega arith))

pub holder_count-push : (ps : List Piece) (p : Piece) (x : ℕ)
    → holder_count (ps ++ p ∷ []) x ≡ holder_count ps x + holds_at x p
holder_count-push [] p x = omega arith
holder_count-push (q ∷ ps) p x = omega (arith, holder_count-push ps p x)

pub all_push : {T : Type 0} (P : T → Type 0) (ps : List T) (q : T) → AllByRecursion P ps → P q
    → AllByRecursion P (ps ++ q ∷ [])
all_push P [] q all here = (here, tt)
all_push P (p ∷ ps) q all here = (all.0, all_push P ps q all.1 here)

-- ---- the same pieces in another order

-- a number for what is present
abbrev code : Option ℕ → ℕ
code None = 0
code (Some b) = suc b

code-injective : (x y : Option ℕ) → code x ≡ code y → x ≡ y
code-injective None None e = refl
code-injective None (Some b) e = absurd (let no : 0 ≡ suc b = e in omega arith)
code-injective (Some a) None e = absurd (let no : suc a ≡ 0 = e in omega arith)
code-injective (Some a) (Some b) e = (let up : suc a ≡ suc b = e in let same : a ≡ b = omega arith in ap Some same)

holder_count-sum : (ps : List Piece) (x : ℕ) → holder_count ps x ≡ sum_by (holds_at x) ps
holder_count-sum [] x = refl
holder_count-sum (p ∷ ps) x = ap (λ n. holds_at x p + n) (holder_count-sum ps x) ∙ sym (sum_by-cons (holds_at x) p ps)

lookup-sum : (store : List ℕ) (n : ℕ) (ps : List Piece) (x : ℕ) → n ≤ length store → AllByRecursion (LiesBefore n) ps
    → holder_count ps x ≤ 1
    → sum_by (λ p. code (byte_in (run_in store p) x)) ps ≡ code (lookup (runs_in store ps) x)
lookup-sum store n [] x l lies once = omega arith
lookup-sum store n (p ∷ ps) x l lies once =
    sum_by-cons (λ p. code (byte_in (run_in store p) x)) p ps
    ∙ ap (λ k. code (byte_in (run_in store p) x) + k) (lookup-sum store n ps x l lies.1 (omega arith))
    ∙ elim (has_or_not x p) [
      | inl y ↦ (let one = y.0 in first (byte_in (run_in store p) x) _
          (lookup_none store n ps x l lies.1 (omega arith)))
      | inr y ↦ second (byte_in (run_in store p) x) _ (holds_none store n p x l lies.0 y.0)
    ]
  where
    first : (a b : Option ℕ) → b ≡ None → code a + code b ≡ code (option_or a b)
    first None b e = rw e refl
    first (Some a) b e = rw e (omega arith)

    second : (a b : Option ℕ) → a ≡ None → code a + code b ≡ code (option_or a b)
    second a b e = rw e (omega arith)

pub all_permuted : (P : Piece → Type 0) (ps qs : List Piece) → IsPermutation ps qs → AllByRecursion P ps
    → AllByRecursion P qs
all_permuted P ps qs moved all = recursion_from_All P qs (All-permutation P ps qs moved (All-from_recursion P ps all))

pub disjoint_permuted : (n : ℕ) (ps qs : List Piece) → IsPermutation ps qs → AreDisjoint n ps → AreDisjoint n qs
disjoint_permuted n ps qs moved s = record {
  once = λ x. (
      let e : holder_count qs x ≡ holder_count ps x = holder_count-sum qs x
      ∙ sum_by-IsPermutation (holds_at x) ps qs moved ∙ sym (holder_count-sum ps x) in
      let most = s.once x in
      omega arith
      );
  filled = all_permuted _ ps qs moved s.filled;
  lies = all_permuted _ ps qs moved s.lies;
}

pub memory_permuted : (store : List ℕ) (ps qs : List Piece) → IsPermutation ps qs → AreDisjoint (length store) ps
    → memory_of (runs_in store qs) ≡ memory_of (runs_in store ps)
memory_permuted store ps qs moved s =
    let t = disjoint_permuted (length store) ps qs moved s in
    same_memory _ _ (λ x.
    byte_of_memory_of (runs_in store qs) x
    ∙ code-injective (lookup (runs_in store qs) x) (lookup (runs_in store ps) x)
    (sym (lookup-sum store (length store) qs x (omega arith) t.lies (t.once x))
    ∙ sum_by-IsPermutation (λ p. code (byte_in (run_in store p) x)) ps qs moved
    ∙ lookup-sum store (length store) ps x (omega arith) s.lies (s.once x))
    ∙ sym (byte_of_memory_of (runs_in store ps) x))

-- ---- sorted by their bases, the pieces rise

holders_at : (ps : List Piece) (k : ℕ) (d : Piece) (x : ℕ) → k < length ps → holds_at x (get_or ps k d) ≡ 1
    → 0 < holder_count ps x
holders_at [] k d x h one = absurd (omega arith)
holders_at (p ∷ ps) zero d x h one = omega arith
holders_at (p ∷ ps) (suc k) d x h one = omega (arith, holders_at ps k d x (omega arith) one)

pub rising_sorted : (ps : List Piece) → IsNonDecreasingBy (λ (p : Piece). p.0) ps → ((x : ℕ) → holder_count ps x ≤ 1)
    → AllByRecursion (λ p. 0 < p.1.len) ps → AreSortedDisjoint ps
rising_sorted [] sorted once filled = tt
rising_sorted (p ∷ ps) sorted once filled = (
  filled.0,
  all_from (λ q. end_at p ≤ q.0) ps (λ k d h.
      let q = get_or ps k d in
      let low : p.0 ≤ q.0 = sorted 0 (suc k) d (omega arith) (omega arith) in
      elim (cases_lt q.0 (end_at p)) [
        | inl l ↦ absurd (
            let some : 0 < q.1.len = of_all (λ p. 0 < p.1.len) ps k d filled.1 h in
            let here : holds_at q.0 p ≡ 1 = has_within q.0 p low l in
            let there = holders_at ps k d q.0 h (has_within q.0 q (omega arith) (omega arith)) in
            let most = once q.0 in
            omega arith
            )
        | inr l ↦ l
      ]),
  rising_sorted ps (λ i j d l h. sorted (suc i) (suc j) d (omega arith) (omega arith))
      (λ x. (let most = once x in omega arith)) filled.1,
)
