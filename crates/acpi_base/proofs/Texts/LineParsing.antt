-- What one line of an image text says, and where it ends.
use Rattle.std.proofs.Common.{◌≡◌, ℕ, ◌+◌, ◌*◌, ◌^◌, ◌<◌, ◌≤◌, List, [], ◌∷◌, ◌++◌, length, get_or, drop, refl, arith, eqb, if◌then◌else◌, true, false, length-append}
use Rattle.std.proofs.lemmas.List.{drop_more}
use Rattle.std.proofs.lemmas.List.Edits.{between_more}
use Rattle.std.proofs.Math.Nat.{pow-le-pow_right}
use Rattle.std.specs.Prelude.{slice_range, None, Some, Option, Bool, take_while}
use Rattle.std.specs.List.{prefix_len}
use Rattle.std.specs.Option.{option_map_or}
use Rattle.acpi_base.specs.Text.ImageText.{Data, Bad, digit_of, hex_number, is_blank, is_hex_digit, skip_blanks, without_cr, without_comment, form_of, line_of, address_line_of, data_from}

pub slice_range_more : (xs : List ℕ) (a i : ℕ) → a ≤ i → i < length xs
    → slice_range xs a (i + 1) ≡ slice_range xs a i ++ get_or xs i 0 ∷ []
slice_range_more xs a i low high = between_more xs a i 0 low high

pub drop_here : (xs : List ℕ) (i : ℕ) → i < length xs → drop i xs ≡ get_or xs i 0 ∷ drop (i + 1) xs
drop_here xs i within = drop_more xs i 0 within

-- for one more element that was passed
pub ruleset one_more = (slice_range_more, drop_here)

pub power_fits : (i : ℕ) → i < 16 → 16 ^ i * 16 ≤ 2 ^ 64
power_fits i few = let most : 16 ^ i ≤ 16 ^ 15 =
    pow-le-pow_right {n = 16} (omega arith) {i = i} {j = 15} (omega arith) in omega arith

-- one more digit of a number
pub next_digit : (text : List ℕ) (i value digit : ℕ) → i < length text → digit_of (get_or text i 0) ≡ Some digit
    → (prefix_len is_hex_digit (drop i text) ≡ 1 + prefix_len is_hex_digit (drop (i + 1) text))
    × (hex_number value (take_while is_hex_digit (drop i text))
    ≡ hex_number (16 * value + digit) (take_while is_hex_digit (drop (i + 1) text)))
unfolding hex_number
next_digit text i value digit within is = rw (drop_here text i within) (first (get_or text i 0) (drop (i + 1) text) is)
  where
    first : (b : ℕ) (rest : List ℕ) → digit_of b ≡ Some digit
        → (prefix_len is_hex_digit (b ∷ rest) ≡ 1 + prefix_len is_hex_digit rest)
        × (hex_number value (take_while is_hex_digit (b ∷ rest))
        ≡ hex_number (16 * value + digit) (take_while is_hex_digit rest))
    first b rest e = (grind (arith, e), grind (arith, e))

data_from_grows : (line bytes : List ℕ) (high : Option ℕ) (all : List ℕ) → data_from bytes high line ≡ Data all
    → length bytes + option_map_or (λ h. 1) high 0 ≤ length all
unfolding data_from
data_from_grows [] bytes high all e = grind (arith)
data_from_grows (b ∷ rest) bytes high all e =
    let first = λ (h : ℕ). data_from_grows rest bytes (Some h) all in
    let second = λ (c : ℕ). data_from_grows rest (bytes ++ c ∷ []) None all in
    grind (arith, length-append, data_from_grows rest bytes None all, first, second)

full_some : (at : Bool) (digit : Option ℕ) (rest all : List ℕ)
    → (if at then address_line_of rest else option_map_or (λ high. data_from [] (Some high) rest) digit Bad) ≡ Data all
    → 0 < length all
unfolding address_line_of
full_some at digit rest all e = grind (arith, λ (h : ℕ). data_from_grows rest [] (Some h) all)

rest_some : (line all : List ℕ) → form_of (skip_blanks line) ≡ Data all → 0 < length all
unfolding form_of skip_blanks data_from
rest_some [] all e = absurd (cc)
rest_some (b ∷ rest) all e =
    elim (is_blank b) as (λ t. is_blank b ≡ t → form_of (if t then skip_blanks rest else b ∷ rest) ≡ Data all
    → 0 < length all) [
      | true ↦ λ blank f. rest_some rest all f
      | false ↦ λ full f. full_some (eqb b 64) (digit_of b) rest all (rw full at f)
    ] refl e

pub data_some : (line all : List ℕ) → line_of line ≡ Data all → 0 < length all
unfolding line_of
data_some line all e = rest_some (without_comment (without_cr line)) all e
