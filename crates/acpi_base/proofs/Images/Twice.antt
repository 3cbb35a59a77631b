-- When the first bytes of a store have an address twice.
use Rattle.std.proofs.Common.{◌≡◌, inl, inr, ℕ, zero, suc, ◌+◌, ◌-◌, ◌<◌, ◌≤◌, min, List, [], ◌∷◌, ◌++◌, length, get_or, take, refl, sym, ap, subst, ◌∙◌, arith}
use Rattle.std.specs.List.{AllByRecursion, sum_by}
use Rattle.std.specs.List.Sorted.{IsPermutation, IsNonDecreasingBy}
use Rattle.std.proofs.lemmas.Bool.{cases_lt}
use Rattle.std.proofs.lemmas.List.{get_or-take, get_or_default, length-take-le, take_all, take_more}
use Rattle.std.proofs.lemmas.List.Sums.{sum_by-cons}
use Rattle.std.proofs.lemmas.List.Sorted.{sum_by-IsPermutation}
use Rattle.acpi_base.specs.Image.Draft.{ComesTwice, IsOnceBefore, cut, cut_all, holder_count, holds_at}
use Rattle.acpi_base.specs.Image.Pieces.{Piece, LiesBefore}
use Rattle.acpi_base.proofs.Images.Holders.{has_or_not, has_outside, has_within, holder_count-push}
use Rattle.acpi_base.proofs.Images.Stores.{all_from, of_all}

-- ---- pieces one after another

cut_all-push : (s : ℕ) (ps : List Piece) (q : Piece) → cut_all s (ps ++ q ∷ []) ≡ cut_all s ps ++ cut s q ∷ []
cut_all-push s [] q = refl
cut_all-push s (p ∷ ps) q = ap (λ qs. cut s p ∷ qs) (cut_all-push s ps q)

count_more : (s : ℕ) (ps : List Piece) (i : ℕ) (d : Piece) (x : ℕ) → i < length ps
    → holder_count (cut_all s (take (i + 1) ps)) x
    ≡ holder_count (cut_all s (take i ps)) x + holds_at x (cut s (get_or ps i d))
count_more s ps i d x h =
    ap (λ qs. holder_count (cut_all s qs) x) (take_more ps i d h)
    ∙ ap (λ qs. holder_count qs x) (cut_all-push s (take i ps) (get_or ps i d))
    ∙ holder_count-push (cut_all s (take i ps)) (cut s (get_or ps i d)) x

count_first : (s : ℕ) (ps : List Piece) (i x : ℕ)
    → holder_count (cut_all s (take i ps)) x ≤ holder_count (cut_all s ps) x
count_first s [] zero x = omega arith
count_first s [] (suc i) x = omega arith
count_first s (p ∷ ps) zero x = omega arith
count_first s (p ∷ ps) (suc i) x = (let rest = count_first s ps i x in omega arith)

pub none_cut : (s : ℕ) (q : Piece) (x : ℕ) → min q.1.len (s - q.1.start) ≡ 0 → holds_at x (cut s q) ≡ 0
none_cut s q x e = elim (has_or_not x (cut s q)) [
  | inl y ↦ absurd (let low = y.1 in let high = y.2 in omega arith)
  | inr y ↦ y.0
]

-- the facts about the first i pieces in the scan
pub record IsScanned (ps : List Piece) (s i end : ℕ) : Type 0 where
  pub once : (x : ℕ) → holder_count (cut_all s (take i ps)) x < 2
  pub behind : (x : ℕ) → end ≤ x → holder_count (cut_all s (take i ps)) x ≡ 0
  pub reached : (x : ℕ) → x < end → AllByRecursion (λ p. p.0 ≤ x) (take i ps)
      → 0 < holder_count (cut_all s (take i ps)) x

pub scanned_none : (ps : List Piece) (s : ℕ) → IsScanned ps s 0 0
scanned_none ps s = record {
  once = λ x. omega arith;
  behind = λ x l. refl;
  reached = λ x l all. absurd (omega arith);
}

all_fewer : (P : Piece → Type 0) (ps : List Piece) (i : ℕ) → AllByRecursion P (take (suc i) ps)
    → AllByRecursion P (take i ps)
all_fewer P [] zero all = tt
all_fewer P [] (suc i) all = tt
all_fewer P (p ∷ ps) zero all = tt
all_fewer P (p ∷ ps) (suc i) all = (all.0, all_fewer P ps i all.1)

one_less : (P : Piece → Type 0) (ps : List Piece) (i : ℕ) → AllByRecursion P (take (i + 1) ps)
    → AllByRecursion P (take i ps)
one_less P ps i all =
    (let next : i + 1 ≡ suc i = omega arith in all_fewer P ps i (subst (λ n. AllByRecursion P (take n ps)) next all))

pub scanned_skip : (ps : List Piece) (s i end : ℕ) (d : Piece) → i < length ps
    → min (get_or ps i d).1.len (s - (get_or ps i d).1.start) ≡ 0 → IsScanned ps s i end → IsScanned ps s (i + 1) end
scanned_skip ps s i end d h e scanned = record {
  once = λ x. (let some = scanned.once x in let more = count_more s ps i d x h in let none = none_cut s (get_or ps i d)
      x e in
      omega arith);
  behind = λ x l. (let some = scanned.behind x l in let more = count_more s ps i d x h in
      let none = none_cut s (get_or ps i d) x e in omega arith);
  reached = λ x l all. (let some = scanned.reached x l (one_less _ ps i all) in let more = count_more s ps i d x h in
      omega arith);
}

pub scanned_more : (ps : List Piece) (s i end next : ℕ) (d : Piece) → i < length ps → end ≤ (get_or ps i d).0
    → next ≡ (get_or ps i d).0 + min (get_or ps i d).1.len (s - (get_or ps i d).1.start) → IsScanned ps s i end
    → IsScanned ps s (i + 1) next
scanned_more ps s i end next d h low e scanned =
    let q = get_or ps i d in
    record {
      once = λ x. (let some = scanned.once x in let more = count_more s ps i d x h in elim (has_or_not x (cut s q)) [
        | inl y ↦ (let one = y.0 in let from = y.1 in let none = scanned.behind x (omega arith) in omega arith)
        | inr y ↦ (let none = y.0 in omega arith)
      ]);
      behind = λ x l. (let some = scanned.behind x (omega arith) in let more = count_more s ps i d x h in
          let none = has_outside x (cut s q) (inr (omega arith)) in omega arith);
      reached = λ x l all. (
          let from : q.0 ≤ x = last_of ps i d x h all in
          let one = has_within x (cut s q) from (omega arith) in
          let more = count_more s ps i d x h in
          omega arith
          );
    }
  where
    last_of : (ps : List Piece) (i : ℕ) (d : Piece) (x : ℕ) → i < length ps
        → AllByRecursion (λ p. p.0 ≤ x) (take (i + 1) ps)
        → (get_or ps i d).0 ≤ x
    last_of ps i d x h all =
        let long : length (take (i + 1) ps) ≡ i + 1 = length-take-le (i + 1) ps (omega arith) in
        subst (λ (p : Piece). p.0 ≤ x) (get_or-take (i + 1) ps i d (omega arith))
        (of_all (λ p. p.0 ≤ x) (take (i + 1) ps) i d all (omega arith))

-- a piece that begins before the end of those before it
pub scanned_twice : (ps : List Piece) (s i end : ℕ) (d : Piece) → IsNonDecreasingBy (λ (p : Piece). p.0) ps
    → i < length ps
    → 0 < min (get_or ps i d).1.len (s - (get_or ps i d).1.start) → (get_or ps i d).0 < end → IsScanned ps s i end
    → ComesTwice ps s (get_or ps i d).0
scanned_twice ps s i end d sorted h some low scanned =
    let q = get_or ps i d in
    let long : length (take i ps) ≡ i = length-take-le i ps (omega arith) in
    let before = scanned.reached q.0 low (all_from (λ p. p.0 ≤ q.0) (take i ps) (λ k e l.
    subst (λ (p : Piece). p.0 ≤ q.0) (sym (get_or-take i ps k e (omega arith)))
    (subst (λ (p : Piece). (get_or ps k e).0 ≤ p.0) (get_or_default ps i e d h) (sorted k i e (omega arith) h)))) in
    let one = has_within q.0 (cut s q) (omega arith) (omega arith) in
    let more = count_more s ps i d q.0 h in
    let all = count_first s ps (i + 1) q.0 in
    omega arith

pub scanned_all : (ps : List Piece) (s i end : ℕ) → length ps ≤ i → IsScanned ps s i end → IsOnceBefore ps s
scanned_all ps s i end h scanned =
    λ x. subst (λ qs. holder_count (cut_all s qs) x < 2) (take_all i ps h) (scanned.once x)

-- ---- no bytes, all bytes, and another order

pub none_before : (ps : List Piece) → IsOnceBefore ps 0
none_before ps = λ x. (let none = none_of ps x in omega arith)
  where
    none_of : (ps : List Piece) (x : ℕ) → holder_count (cut_all 0 ps) x ≡ 0
    none_of [] x = refl
    none_of (p ∷ ps) x = (let rest = none_of ps x in let none = none_cut 0 p x (omega arith) in omega arith)

count-sum : (s : ℕ) (ps : List Piece) (x : ℕ) → holder_count (cut_all s ps) x ≡ sum_by (λ p. holds_at x (cut s p)) ps
count-sum s [] x = refl
count-sum s (p ∷ ps) x =
    ap (λ n. holds_at x (cut s p) + n) (count-sum s ps x) ∙ sym (sum_by-cons (λ q. holds_at x (cut s q)) p ps)

count_permuted : (s : ℕ) (ps qs : List Piece) (x : ℕ) → IsPermutation ps qs
    → holder_count (cut_all s qs) x ≡ holder_count (cut_all s ps) x
count_permuted s ps qs x moved =
    count-sum s qs x ∙ sum_by-IsPermutation (λ p. holds_at x (cut s p)) ps qs moved ∙ sym (count-sum s ps x)

pub once_permuted : (s : ℕ) (ps qs : List Piece) → IsPermutation ps qs → IsOnceBefore qs s → IsOnceBefore ps s
once_permuted s ps qs moved once = λ x. (let same = count_permuted s ps qs x moved in let few = once x in omega arith)

pub twice_permuted : (s : ℕ) (ps qs : List Piece) (x : ℕ) → IsPermutation ps qs → ComesTwice qs s x → ComesTwice ps s x
twice_permuted s ps qs x moved twice = (let same = count_permuted s ps qs x moved in omega arith)

pub whole_cut : (s : ℕ) (p : Piece) (x : ℕ) → p.1.start + p.1.len ≤ s → holds_at x (cut s p) ≡ holds_at x p
whole_cut s p x l = elim (has_or_not x p) [
  | inl y ↦ (let one = y.0 in let high = y.2 in let same = has_within x (cut s p) y.1 (omega arith) in omega arith)
  | inr y ↦ (let none = y.0 in let same = has_outside x (cut s p) (elim y.1 [
    | inl low ↦ inl low
    | inr high ↦ inr (omega arith)
  ]) in omega arith)
]

pub count_all : (s : ℕ) (ps : List Piece) (x : ℕ) → AllByRecursion (LiesBefore s) ps
    → holder_count (cut_all s ps) x ≡ holder_count ps x
count_all s [] x lies = refl
count_all s (p ∷ ps) x lies = (let here = whole_cut s p x lies.0.0 in let rest = count_all s ps x lies.1 in omega arith)

pub some_come : (ps : List Piece) (s x : ℕ) → ComesTwice ps s x → 0 < s
some_come ps s x twice = elim (cases_lt 0 s) [
  | inl some ↦ some
  | inr none ↦ absurd (let zero_is : s ≡ 0 = omega arith in let few = none_before ps x in
      let many = subst (λ n. ComesTwice ps n x) zero_is twice in omega arith)
]
