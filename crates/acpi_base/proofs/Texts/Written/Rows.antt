-- The bytes of a line and the lines of a run, one by one.
use Rattle.std.proofs.Common.{◌≡◌, ℕ, suc, ◌+◌, ◌/◌, ◌<◌, ◌≤◌, List, [], ◌∷◌, ◌++◌, length, get_or, take, drop, set, refl, sym, ap, ◌∙◌, arith, append_assoc, length-append, length-drop, ◌⊎◌, inl, inr}
use Rattle.std.specs.Prelude.{min}
use Rattle.std.proofs.lemmas.Bool.{cases_lt}
use Rattle.std.proofs.Math.Seq.{take-append_seam, drop-append_seam}
use Rattle.std.proofs.lemmas.List.{nil_from_length, drop_more, drop_all, drop-take, take_all, take_more_set, append-nil}
use Rattle.acpi_base.specs.Text.WrittenText.{pair, spaced_pairs, row, rows, row_count, line_with_lf, text_of}

pub spaced_more : (bs : List ℕ) (i b : ℕ) → i < length bs → b ≡ get_or bs i b
    → spaced_pairs (drop i bs) ≡ 32 ∷ (pair b ++ spaced_pairs (drop (i + 1) bs))
unfolding spaced_pairs
spaced_more bs i b h e = ap spaced_pairs (drop_more bs i b h ∙ ap (λ x. x ∷ drop (i + 1) bs) (sym e))

pub spaced_all : (bs : List ℕ) (i : ℕ) → length bs ≤ i → spaced_pairs (drop i bs) ≡ []
unfolding spaced_pairs
spaced_all bs i h = ap spaced_pairs (drop_all i bs h)

pub ruleset pairs = (spaced_more, spaced_all, append_assoc, append-nil)

without_blank : (bs : List ℕ) → 0 < length bs → drop 1 (spaced_pairs bs ++ 10 ∷ []) ≡ line_with_lf (row bs)
unfolding spaced_pairs row
without_blank [] some = absurd (omega arith)
without_blank (b ∷ bs) some = refl

pub made_line : (bs made : List ℕ) (end n : ℕ) → 0 < length bs → end < length made → take end made ≡ spaced_pairs bs
    → n ≡ end → take n (drop 1 (set made end 10)) ≡ line_with_lf (row bs)
made_line bs made end n some fits is same =
    let next : 1 + n ≡ end + 1 = omega arith in
    sym (drop-take 1 n (set made end 10))
    ∙ ap (λ (k : ℕ). drop 1 (take k (set made end 10))) next
    ∙ ap (drop 1) (take_more_set made end 10 fits ∙ ap (λ (front : List ℕ). front ++ 10 ∷ []) is)
    ∙ without_blank bs some

-- ---- the lines of a run, one by one

rows_more : (bs : List ℕ) → 0 < length bs
    → text_of (rows (row_count bs) bs) ≡ line_with_lf (row (take 16 bs)) ++ text_of
    (rows (row_count (drop 16 bs)) (drop 16 bs))
unfolding rows
rows_more bs some =
    let back = length-drop 16 bs in
    let count : row_count bs ≡ suc (row_count (drop 16 bs)) = omega (arith, back) in
    ap (λ (n : ℕ). text_of (rows n bs)) count

first_part : (x later : List ℕ) → length x ≡ min 16 (length (x ++ later))
    → (take 16 (x ++ later) ≡ x) × (drop 16 (x ++ later) ≡ later)
first_part x later count =
    let both = length-append x later in
    elim (cases_lt (length x) 16) [
      | inl short ↦
          let nothing : later ≡ [] = nil_from_length later (omega (arith, both, count)) in
          let whole : x ++ later ≡ x = ap (λ (ys : List ℕ). x ++ ys) nothing ∙ append-nil x in (
            take_all 16 (x ++ later) (omega arith) ∙ whole,
            drop_all 16 (x ++ later) (omega arith) ∙ sym nothing,
          )
      | inr full ↦
          let sixteen : 16 ≡ length x = omega (arith, both, count) in (
            ap (λ (n : ℕ). take n (x ++ later)) sixteen ∙ take-append_seam x later,
            ap (λ (n : ℕ). drop n (x ++ later)) sixteen ∙ drop-append_seam x later,
          )
    ]

pub rows_next : (rest x later : List ℕ) → rest ≡ x ++ later → length x ≡ min 16 (length rest) → 0 < length rest
    → text_of (rows (row_count rest) rest) ≡ line_with_lf (row x) ++ text_of (rows (row_count later) later)
rows_next rest x later is count some =
    let parts = first_part x later (count ∙ ap (λ (ys : List ℕ). min 16 (length ys)) is) in
    let front : take 16 rest ≡ x = ap (take 16) is ∙ parts.0 in
    let back : drop 16 rest ≡ later = ap (drop 16) is ∙ parts.1 in
    rows_more rest some ∙ (λ i. line_with_lf (row (front i)) ++ text_of (rows (row_count (back i)) (back i)))

pub rows_none : (bs : List ℕ) → length bs ≡ 0 → text_of (rows (row_count bs) bs) ≡ []
unfolding rows
rows_none [] none = refl
rows_none (b ∷ bs) none = absurd (omega arith)

pub ruleset lines = (rows_next, rows_none, append_assoc, append-nil)
