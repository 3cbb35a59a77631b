-- The two digits that the library `hex` writes for a byte are those of the written form.
use Rattle.std.proofs.Common.{◌≡◌, ℕ, zero, suc, ◌+◌, ◌/◌, ◌%◌, ◌<◌, ◌≤◌, Bool, true, false, ◌&&◌, List, [], ◌∷◌, ◌++◌, length, take, get_or, slice_index, slice_set, refl, ◌∙◌, arith, append_assoc, inl, inr}
use Rattle.std.specs.Prelude.{◌==◌}
use Rattle.std.specs.Fmt.{digit_glyph}
use Rattle.std.proofs.lemmas.Bool.{and_parts, cases_lt, eqb-true}
use Rattle.std.proofs.lemmas.List.{take_more_set, length-set}
use Rattle.hex.specs.Hex.{encode_lower, encode_with, lower_digits}
use Rattle.acpi_base.specs.Text.WrittenText.{pair}

-- the table of `hex` has the digits of the values below n
all_agree : ℕ → Bool
all_agree zero = true
all_agree (suc n) = (slice_index lower_digits n == digit_glyph false n) && all_agree n

agrees : (n d : ℕ) → all_agree n ≡ true → d < n → slice_index lower_digits d ≡ digit_glyph false d
unfolding all_agree
agrees zero d all below = absurd (omega arith)
agrees (suc n) d all below =
    let parts = and_parts (slice_index lower_digits n == digit_glyph false n) (all_agree n) all in
    elim (cases_lt d n) [
      | inl less ↦ agrees n d parts.1 less
      | inr top ↦ (let same : d ≡ n = omega arith in
          rw same (eqb-true (slice_index lower_digits n) (digit_glyph false n) parts.0))
    ]

digit_encoded : (d : ℕ) → d < 16 → slice_index lower_digits d ≡ digit_glyph false d
unfolding all_agree
digit_encoded d small = agrees 16 d refl small

pub pair_encoded : (b : ℕ) → b < 256 → encode_lower (b ∷ []) ≡ pair b
unfolding encode_with
pair_encoded b fits =
    let high = digit_encoded (b / 16) (omega arith) in
    let low = digit_encoded (b % 16) (omega arith) in
    rw (high, low) refl

three_writes : (xs : List ℕ) (o x y z : ℕ) → o + 3 ≤ length xs
    → take (o + 3) (slice_set (slice_set (slice_set xs o x) (o + 1) y) (o + 2) z) ≡ take o xs ++ x ∷ y ∷ z ∷ []
three_writes xs o x y z fits =
    let one = slice_set xs o x in
    let two = slice_set one (o + 1) y in
    let long_one : length one ≡ length xs = length-set xs o x in
    let long_two : length two ≡ length one = length-set one (o + 1) y in
    let next : o + 3 ≡ o + 2 + 1 = omega arith in
    let more : o + 2 ≡ o + 1 + 1 = omega arith in
    let third = take_more_set two (o + 2) z (omega (arith, long_one, long_two)) in
    let second = take_more_set one (o + 1) y (omega (arith, long_one)) in
    let first = take_more_set xs o x (omega arith) in
    rw (next, third, more, second, first)
    (append_assoc (take o xs ++ x ∷ []) (y ∷ []) (z ∷ []) ∙ append_assoc (take o xs) (x ∷ []) (y ∷ z ∷ []))

pub pair_put : (xs digits : List ℕ) (o b : ℕ) → o + 3 ≤ length xs → b < 256 → digits ≡ encode_lower (b ∷ [])
    → take (o + 3) (slice_set (slice_set (slice_set xs o 32) (o + 1) (get_or digits 0 0)) (o + 2) (get_or digits 1 0))
    ≡ take o xs ++ 32 ∷ pair b
pair_put xs digits o b fits byte is =
    let digits_are : digits ≡ pair b = is ∙ pair_encoded b byte in
    three_writes xs o 32 (get_or digits 0 0) (get_or digits 1 0) fits
    ∙ (λ i. take o xs ++ 32 ∷ get_or (digits_are i) 0 0 ∷ get_or (digits_are i) 1 0 ∷ [])
