-- Lines that are only data, with neither a comment nor a CR.
use Rattle.std.proofs.Common.{◌≡◌, ◌≢◌, ℕ, zero, suc, ◌+◌, ◌-◌, ◌*◌, ◌<◌, ◌≤◌, if◌then◌else◌, List, [], ◌∷◌, ◌++◌, length, get_or, drop, Some, None, Option, Bool, refl, sym, ap, ◌∙◌, arith, true, false}
use Rattle.std.specs.Prelude.{◌==◌}
use Rattle.std.specs.Option.{option_map_or}
use Rattle.std.specs.List.{before_first, position_or_len}
use Rattle.std.proofs.lemmas.Bool.{ne_eqb}
use Rattle.std.proofs.lemmas.Bool.Decides.{nat_tests}
use Rattle.std.proofs.lemmas.List.Sums.{position_or_len_is}
use Rattle.std.proofs.lemmas.List.{drop_more, drop_all, take_all}
use Rattle.acpi_base.specs.Text.ImageText.{Data, Bad, digit_of, is_blank, skip_blanks, without_cr, without_comment, form_of, line_of, data_from}

-- ---- pairs of digits

pub blank_read : (bytes rest : List ℕ) → data_from bytes None (32 ∷ rest) ≡ data_from bytes None rest
unfolding data_from digit_of
blank_read bytes rest = refl

next_byte : (line : List ℕ) (i j : ℕ) → j ≡ i + 1 → i < length line → drop i line ≡ get_or line i 0 ∷ drop j line
next_byte line i j next within = drop_more line i 0 within ∙ ap (λ (n : ℕ). get_or line i 0 ∷ drop n line) (sym next)

next_two : (line : List ℕ) (i j : ℕ) → j ≡ i + 2 → j ≤ length line
    → drop i line ≡ get_or line i 0 ∷ get_or line (i + 1) 0 ∷ drop j line
next_two line i j next within =
    next_byte line i (i + 1) refl (omega (arith, next, within))
    ∙ ap (λ (xs : List ℕ). get_or line i 0 ∷ xs)
    (next_byte line (i + 1) j (omega (arith, next)) (omega (arith, next, within)))

-- a line goes on after a pair and a blank
pub pair_passed : (line bytes : List ℕ) (byte i j : ℕ) → j ≡ i + 3 → j ≤ length line
    → ((before rest : List ℕ) → data_from before None (get_or line i 0 ∷ get_or line (i + 1) 0 ∷ rest) ≡ data_from
    (before ++ byte ∷ []) None rest)
    → get_or line (i + 2) 0 ≡ 32 → data_from bytes None (drop i line) ≡ data_from (bytes ++ byte ∷ []) None
    (drop j line)
pair_passed line bytes byte i j three within pair space =
    ap (data_from bytes None) (next_two line i (i + 2) refl (omega (arith, three, within)))
    ∙ pair bytes (drop (i + 2) line)
    ∙ ap (data_from (bytes ++ byte ∷ []) None)
    (next_byte line (i + 2) j (omega (arith, three)) (omega (arith, three, within)))
    ∙ ap (λ (b : ℕ). data_from (bytes ++ byte ∷ []) None (b ∷ drop j line)) space
    ∙ blank_read (bytes ++ byte ∷ []) (drop j line)

-- a line ends after its last pair
pub last_pair : (line bytes : List ℕ) (byte i : ℕ) → length line ≡ i + 2
    → ((before rest : List ℕ) → data_from before None (get_or line i 0 ∷ get_or line (i + 1) 0 ∷ rest) ≡ data_from
    (before ++ byte ∷ []) None rest)
    → data_from bytes None (drop i line) ≡ Data (bytes ++ byte ∷ [])
unfolding data_from
last_pair line bytes byte i ends pair =
    ap (data_from bytes None) (next_two line i (i + 2) refl (omega (arith, ends)))
    ∙ pair bytes (drop (i + 2) line)
    ∙ ap (data_from (bytes ++ byte ∷ []) None) (drop_all (i + 2) line (omega (arith, ends)))

-- ---- lines of data alone

refused : (c : ℕ) → digit_of c ≡ None → is_blank c ≡ false → (bytes : List ℕ) (high : Option ℕ) (rest : List ℕ)
    → data_from bytes high (c ∷ rest) ≡ Bad
unfolding data_from
refused c none full bytes None rest = rw (none, full) refl
refused c none full bytes (Some h) rest = rw none refl

-- the rest of data is data
record IsRest (rest all : List ℕ) : Type 0 where
  bytes : List ℕ
  high : Option ℕ
  is : data_from bytes high rest ≡ Data all

rest_of : (b : ℕ) (rest bytes : List ℕ) (high : Option ℕ) (all : List ℕ) → data_from bytes high (b ∷ rest) ≡ Data all
    → IsRest rest all
unfolding data_from
rest_of b rest bytes None all e =
    elim (digit_of b) as (λ d. option_map_or (λ digit. data_from bytes (Some digit) rest) d
    (if is_blank b then data_from bytes None rest else Bad) ≡ Data all → IsRest rest all) [
      | Some digit ↦ λ f. record { bytes = bytes; high = Some digit; is = f }
      | None ↦
          elim (is_blank b) as (λ t. (if t then data_from bytes None rest else Bad) ≡ Data all → IsRest rest all) [
            | true ↦ λ f. record { bytes = bytes; high = None; is = f }
            | false ↦ λ f. absurd (cc)
          ]
    ] e
rest_of b rest bytes (Some h) all e =
    elim (digit_of b) as (λ d. option_map_or (λ low. data_from (bytes ++ (16 * h + low) ∷ []) None rest) d Bad ≡ Data
    all → IsRest rest all) [
      | Some low ↦ λ f. record { bytes = bytes ++ (16 * h + low) ∷ []; high = None; is = f }
      | None ↦ λ f. absurd (cc)
    ] e

pub absent : (c : ℕ) → digit_of c ≡ None → is_blank c ≡ false → (line bytes : List ℕ) (high : Option ℕ) (all : List ℕ)
    → data_from bytes high line ≡ Data all
    → (k : ℕ) → k < length line → get_or line k 0 ≢ c
absent c none full [] bytes high all e k within = absurd (omega arith)
absent c none full (b ∷ rest) bytes high all e zero within = λ same.
    let bad : Bad ≡ Data all = sym (refused c none full bytes high rest)
    ∙ ap (λ (x : ℕ). data_from bytes high (x ∷ rest)) (sym same) ∙ e in
    absurd (cc)
absent c none full (b ∷ rest) bytes high all e (suc k) within =
    let r = rest_of b rest bytes high all e in
    absent c none full rest r.bytes r.high all r.is k (omega arith)

unfound : (p : ℕ → Bool) (line : List ℕ) → ((k : ℕ) → k < length line → p (get_or line k 0) ≡ false)
    → before_first p line ≡ line
unfound p line fails =
    let found = position_or_len_is p line (length line) 0 (omega arith) fails (λ past. absurd (omega (arith, past))) in
    take_all (position_or_len p line) line (omega (arith, found))

no_cr : (line all : List ℕ) → data_from [] None line ≡ Data all → 0 < length line → without_cr line ≡ line
unfolding digit_of
no_cr line all e some =
    rw (ne_eqb (get_or line (length line - 1) 0) 13
    (absent 13 refl refl line [] None all e (length line - 1) (omega (arith, some)))) refl

no_comment : (line all : List ℕ) → data_from [] None line ≡ Data all → without_comment line ≡ line
unfolding digit_of
no_comment line all e =
    unfound (λ b. b == 35) line (λ k within. ne_eqb (get_or line k 0) 35
    (absent 35 refl refl line [] None all e k within))

blank_is : (b : ℕ) → is_blank b ≡ true → digit_of b ≡ None
unfolding digit_of
blank_is b blank = grind (arith, nat_tests)

no_digit : digit_of 64 ≡ None
unfolding digit_of
no_digit = refl

blanks_passed : (line all : List ℕ) → data_from [] None line ≡ Data all → 0 < length all
    → form_of (skip_blanks line) ≡ Data all
unfolding form_of skip_blanks data_from
blanks_passed [] all e some = absurd (grind (arith))
blanks_passed (b ∷ rest) all e some =
    let no_at : b ≢ 64 = absent 64 no_digit refl (b ∷ rest) [] None all e 0 (omega arith) in
    elim (is_blank b) as (λ t. is_blank b ≡ t → form_of (if t then skip_blanks rest else b ∷ rest) ≡ Data all) [
      | true ↦ λ blank. blanks_passed rest all (sym (rw (blank_is b blank, blank) refl) ∙ e) some
      | false ↦ λ full. rw (ne_eqb b 64 no_at) e
    ] refl

some_bytes : (line all : List ℕ) → data_from [] None line ≡ Data all → 0 < length all → 0 < length line
unfolding data_from
some_bytes [] all e some = grind (arith)
some_bytes (b ∷ rest) all e some = omega arith

pub data_alone : (line all : List ℕ) → data_from [] None line ≡ Data all → 0 < length all → line_of line ≡ Data all
unfolding line_of
data_alone line all e some =
    ap (λ (xs : List ℕ). form_of (skip_blanks xs))
    (ap without_comment (no_cr line all e (some_bytes line all e some)) ∙ no_comment line all e)
    ∙ blanks_passed line all e some
