-- Pieces that are partitioned at an address.
use Rattle.std.proofs.Common.{◌≡◌, ◌≢◌, ◌⊎◌, inl, inr, ℕ, ◌+◌, ◌-◌, ◌<◌, ◌≤◌, List, ◌++◌, length, get_or, take, drop, slice_set, refl, sym, subst, ◌∙◌, arith, length-append, length-drop}
use Rattle.std.specs.List.{All, AllWithin}
use Rattle.std.specs.List.Sorted.{IsNonDecreasingBy, IsPermutation}
use Rattle.std.proofs.lemmas.Bool.{cases_lt}
use Rattle.std.proofs.lemmas.List.{get_or-drop, get_or-take, get_or_append_left, get_or-append_right, get_or-set_other, length-set, length-take}
use Rattle.std.proofs.lemmas.Grind.{get_or-set_at}
use Rattle.std.proofs.lemmas.List.Edits.{swap_is}
use Rattle.std.proofs.lemmas.List.Sorted.{IsPermutation-swap, IsPermutation-trans}
use Rattle.acpi_base.specs.Image.Pieces.{Piece}

-- of the pieces before the i-th, the first `count` have addresses up to `most`, and the others have higher ones
pub record ArePartitioned (most : ℕ) (ps qs : List Piece) (count i : ℕ) : Type 0 where
  pub permutation : IsPermutation ps qs
  pub within : count ≤ i
  pub low : AllWithin (λ p. p.0 ≤ most) qs 0 count
  pub high : AllWithin (λ p. most < p.0) qs count i

-- ---- one more piece

pub partitioned_more : (most : ℕ) (ps qs : List Piece) (count i next : ℕ) (d : Piece)
    → ArePartitioned most ps qs count i → i < length qs
    → ((next ≡ count + 1) × ((get_or qs i d).0 ≤ most)) ⊎ ((next ≡ count) × (most < (get_or qs i d).0))
    → ArePartitioned most ps (slice_set (slice_set qs i (get_or qs count d)) count (get_or qs i d)) next (i + 1)
partitioned_more most ps qs count i next d partitioned here side =
    let within = partitioned.within in
    record {
      permutation = IsPermutation-trans ps qs rs partitioned.permutation
          (IsPermutation-swap qs rs i count here (omega arith) (swap_is qs i count d here (omega arith)));
      within = elim side [ inl y ↦ (let more = y.0 in omega arith) | inr y ↦ (let same = y.0 in omega arith) ];
      low = λ k e l h. elim (cases_lt k count) [
        | inl before ↦ subst (λ (r : Piece). r.0 ≤ most) (sym (others k e (λ same. omega arith) (λ same. omega arith)))
            (partitioned.low k e l before)
        | inr behind ↦ elim side [
          | inl y ↦ (let more = y.0 in let is : k ≡ count = omega arith in
              subst (λ (r : Piece). r.0 ≤ most) (sym (at_count k e is)) y.1)
          | inr y ↦ absurd (let same = y.0 in omega arith)
        ]
      ];
      high = λ k e l h. elim (cases_lt count k) [
        | inl behind ↦ elim (cases_lt k i) [
          | inl before ↦ subst (λ (r : Piece). most < r.0)
              (sym (others k e (λ same. omega arith) (λ same. omega arith)))
              (partitioned.high k e (omega arith) before)
          | inr last ↦ (let is : k ≡ i = omega arith in
              subst (λ (r : Piece). most < r.0) (sym (at_last k e is (λ same. omega arith)))
              (partitioned.high count d (omega arith) (omega arith)))
        ]
        | inr before ↦ elim side [
          | inl y ↦ absurd (let more = y.0 in omega arith)
          | inr y ↦ (let same = y.0 in let is : k ≡ count = omega arith in
              subst (λ (r : Piece). most < r.0) (sym (at_count k e is)) y.1)
        ]
      ];
    }
  where
    first : List Piece
    first = slice_set qs i (get_or qs count d)

    rs : List Piece
    rs = slice_set first count (get_or qs i d)

    others : (k : ℕ) (e : Piece) → k ≢ count → k ≢ i → get_or rs k e ≡ get_or qs k e
    others k e a b =
        get_or-set_other first count k (get_or qs i d) e a ∙ get_or-set_other qs i k (get_or qs count d) e b

    at_count : (k : ℕ) (e : Piece) → k ≡ count → get_or rs k e ≡ get_or qs i d
    at_count k e is =
        let low = partitioned.within in
        get_or-set_at first count k (get_or qs i d) e is (omega (arith, length-set qs i (get_or qs count d)))

    at_last : (k : ℕ) (e : Piece) → k ≡ i → k ≢ count → get_or rs k e ≡ get_or qs count d
    at_last k e is a =
        get_or-set_other first count k (get_or qs i d) e a ∙ get_or-set_at qs i k (get_or qs count d) e is here

pub partitioned_low : (most : ℕ) (ps qs : List Piece) (count i : ℕ) → ArePartitioned most ps qs count i → length qs ≤ i
    → i ≤ length qs → All (λ p. p.0 ≤ most) (take count qs)
partitioned_low most ps qs count i partitioned past end k d h =
    let within = partitioned.within in
    let inside : k < count = omega (arith, length-take count qs) in
    subst (λ (r : Piece). r.0 ≤ most) (sym (get_or-take count qs k d inside)) (partitioned.low k d (omega arith) inside)

pub partitioned_high : (most : ℕ) (ps qs : List Piece) (count i : ℕ) → ArePartitioned most ps qs count i → length qs ≤ i
    → i ≤ length qs → All (λ p. most < p.0) (drop count qs)
partitioned_high most ps qs count i partitioned past end k d h =
    let within = partitioned.within in
    subst (λ (r : Piece). most < r.0) (sym (get_or-drop count qs k d))
    (partitioned.high (count + k) d (omega arith) (omega (arith, length-drop count qs)))

-- ---- both parts are sorted

pub sorted_parts : (most : ℕ) (xs ys : List Piece) → IsNonDecreasingBy (λ (p : Piece). p.0) xs
    → IsNonDecreasingBy (λ (p : Piece). p.0) ys → All (λ p. p.0 ≤ most) xs → All (λ p. most < p.0) ys
    → IsNonDecreasingBy (λ (p : Piece). p.0) (xs ++ ys)
sorted_parts most xs ys left right low high i j d l h =
    let long = length-append xs ys in
    elim (cases_lt j (length xs)) [
      | inl inside ↦
          let a = get_or_append_left xs ys d i (omega arith) in
          let b = get_or_append_left xs ys d j inside in
          rw (a, b) (left i j d l inside)
      | inr behind ↦
          let b = get_or-append_right xs ys (length xs) j d refl behind in
          elim (cases_lt i (length xs)) [
            | inl before ↦
                let a = get_or_append_left xs ys d i before in
                let least = low i d before in
                let more = high (j - length xs) d (omega arith) in
                rw (a, b) (omega arith)
            | inr after ↦
                let a = get_or-append_right xs ys (length xs) i d refl after in
                rw (a, b) (right (i - length xs) (j - length xs) d (omega arith) (omega arith))
          ]
    ]
