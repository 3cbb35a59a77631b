-- Rows that are read in vectors of 16 bytes.
use Rattle.std.proofs.Common.{◌≡◌, ℕ, zero, suc, ◌+◌, ◌-◌, ◌*◌, ◌/◌, ◌%◌, ◌^◌, ◌<◌, ◌≤◌, Bool, true, false, cond, ltb, eqb, ◌&&◌, bit_or, List, [], ◌∷◌, ◌++◌, map, length, get_or, take, drop, replicate, Some, None, Fits, w8, refl, sym, ap, ◌∙◌, add-one, arith}
use Rattle.std.proofs.lemmas.Bool.{agree_below, agree_below_at, and_parts, eqb-true}
use Rattle.std.proofs.lemmas.List.{get_or-map, length-map, take_all, take_more, get_or_append_left}
use Rattle.std.proofs.lemmas.Nat.{le_or_l, le_or_r}
use Rattle.std.proofs.lemmas.Simd.{Each1-get_or, bit_mask_l, mask_l-mod, tops_compared, get_or-zip2, length-zip2, get_or-replicate, get_or-chunk, length-chunk}
use lib.Lanes.{Each1, zip2, sel_l, top, mask_l, pick_l, chunk}
use Rattle.acpi_base.specs.Text.ImageText.{Data, digit_of, data_from}
use Rattle.acpi_base.specs.Text.Rows.{AreDigitValues, IsRowAt}
use Rattle.acpi_base.proofs.Texts.DataLines.{pair_passed, last_pair}
use Rattle.acpi_base.proofs.Texts.DigitTable.{says, small}

-- ---- the digit's value in each lane

abbrev pub plus : ℕ → ℕ → ℕ
plus a b = (a + b) % 256

abbrev minus : ℕ → ℕ → ℕ
minus a b = (a + (256 - b)) % 256

abbrev less : ℕ → ℕ → ℕ
less a b = cond (ltb a b) 255 0

-- what the code computes of n lanes, and of one
abbrev pub values : ℕ → List ℕ → List ℕ
values n bytes =
    let decimal = zip2 minus bytes (replicate n 48) in
    let letter = zip2 minus (zip2 bit_or bytes (replicate n 32)) (replicate n 97) in
    let least = sel_l (map (top 7) (zip2 less letter (replicate n 6))) letter (replicate n 6) in
    sel_l (map (top 7) (zip2 less decimal (replicate n 10))) decimal (zip2 plus least (replicate n 10))

abbrev value : ℕ → ℕ
value b =
    let decimal = minus b 48 in
    let letter = minus (bit_or b 32) 97 in
    cond (top 7 (less decimal 10)) decimal (plus (cond (top 7 (less letter 6)) letter 6) 10)

values_are : (n : ℕ) (bytes : List ℕ) → length bytes ≡ n → values n bytes ≡ map value bytes
values_are zero [] e = refl
values_are zero (b ∷ bytes) e = absurd (omega (arith, e))
values_are (suc n) [] e = absurd (omega (arith, e))
values_are (suc n) (b ∷ bytes) e = ap (λ vs. value b ∷ vs) (values_are n bytes (omega (arith, e)))

all_agree : agree_below (λ b. says (value b) (digit_of b)) (λ b. true) 256 ≡ true
unfolding digit_of
all_agree = refl

digit_in_lane : (bytes : List ℕ) → length bytes ≡ 16 → Each1 (Fits w8) bytes → (p : ℕ) → p < 16
    → get_or (values 16 bytes) p 0 < 16 → digit_of (get_or bytes p 0) ≡ Some (get_or (values 16 bytes) p 0)
digit_in_lane bytes long fit p within digit =
    let here : get_or (values 16 bytes) p 0 ≡ value (get_or bytes p 0) =
    ap (λ vs. get_or vs p 0) (values_are 16 bytes long) ∙ get_or-map value bytes p 0 0 (omega (arith, long, within)) in
    let byte : get_or bytes p 0 < 256 = (Each1-get_or (Fits w8) bytes p 0 (omega (arith, long, within)) fit).fits in
    let agree = agree_below_at (λ b. says (value b) (digit_of b)) (λ b. true) 256 (get_or bytes p 0) all_agree byte in
    sym (small (value (get_or bytes p 0)) (digit_of (get_or bytes p 0)) agree (omega (arith, here, digit)))
    ∙ ap Some (sym here)

pub digits_in_lanes : (bytes : List ℕ) → length bytes ≡ 16 → Each1 (Fits w8) bytes
    → AreDigitValues bytes (values 16 bytes)
digits_in_lanes bytes long fit = record {
  long = ap length (values_are 16 bytes long) ∙ length-map bytes value ∙ long;
  each = digit_in_lane bytes long fit;
}

-- ---- the order of the lanes

abbrev equal_below : (ℕ → ℕ) → (ℕ → ℕ) → ℕ → Bool
equal_below f g zero = true
equal_below f g (suc n) = eqb (f n) (g n) && equal_below f g n

pub equal_at : (f g : ℕ → ℕ) (n k : ℕ) → equal_below f g n ≡ true → k < n → f k ≡ g k
equal_at f g zero k e l = absurd (omega arith)
equal_at f g (suc n) k e l =
    let parts = and_parts (eqb (f n) (g n)) (equal_below f g n) e in
    grind (arith, eqb-true (f n) (g n) parts.0, equal_at f g n k parts.1)

-- positions in a vector that is joined with itself
pub picked : (xs ks : List ℕ) (k : ℕ) → k < length ks → get_or ks k 0 < length xs
    → get_or (pick_l 0 (xs ++ xs) ks) k 0 ≡ get_or xs (get_or ks k 0) 0
picked xs ks k within below =
    get_or-map (λ p. get_or (xs ++ xs) p 0) ks k 0 0 within ∙ get_or_append_left xs xs 0 (get_or ks k 0) below

-- ---- a test of all lanes at once

unset : (b : Bool) (bit : ℕ) → bit ≡ 0 → bit ≡ cond b 1 0 → b ≡ false
unset true bit clear is = absurd (omega (arith, clear, is))
unset false bit clear is = refl

pub lane_fails : (t : ℕ → ℕ → Bool) (xs ys : List ℕ) (m p : ℕ) → length xs ≡ 16 → length ys ≡ 16 → p < 16
    → m ≡ mask_l (map (top 7) (zip2 (λ a b. cond (t a b) 255 0) xs ys)) % 2 ^ 64 → m / 2 ^ p % 2 ≡ 0
    → t (get_or xs p 0) (get_or ys p 0) ≡ false
lane_fails t xs ys m p few same within mask clear =
    let tests = zip2 t xs ys in
    let many : length tests ≡ 16 = length-zip2 t xs ys (few ∙ sym same) ∙ few in
    let is : m ≡ mask_l tests = mask ∙ ap (λ ms. mask_l ms % 2 ^ 64) (tops_compared w8 t xs ys)
    ∙ mask_l-mod tests 64 (omega (arith, many)) in
    sym (get_or-zip2 t xs ys p 0 0 false (omega (arith, few, within)) (omega (arith, same, within)))
    ∙ unset (get_or tests p false) (m / 2 ^ p % 2) clear (ap (λ n. n / 2 ^ p % 2) is ∙ bit_mask_l tests p)

-- ---- from the lanes to the row

-- two digits that spell a byte
pub record IsPair (first second byte : ℕ) : Type 0 where
  pub high : ℕ
  pub low : ℕ
  pub first_is : digit_of first ≡ Some high
  pub second_is : digit_of second ≡ Some low
  pub byte_is : byte ≡ 16 * high + low

pair_read : (first second byte : ℕ) → IsPair first second byte → (before rest : List ℕ)
    → data_from before None (first ∷ second ∷ rest) ≡ data_from (before ++ byte ∷ []) None rest
unfolding data_from
pair_read first second byte pair before rest = rw (pair.first_is, pair.second_is, pair.byte_is) refl

abbrev pub times : ℕ → ℕ → ℕ
times a b = (a * b) % 256

-- the lanes' digits as pairs
pub pair_in_lanes : (first second high low : List ℕ) (byte p : ℕ) → p < 16
    → AreDigitValues first high → AreDigitValues second low → bit_or (get_or high p 0) (get_or low p 0) < 16
    → byte ≡ get_or (zip2 plus (zip2 times high (replicate 16 16)) low) p 0
    → IsPair (get_or first p 0) (get_or second p 0) byte
pair_in_lanes first second high low byte p within are_high are_low digits is =
    let many = are_high.long in
    let same = are_low.long in
    let h = get_or high p 0 in
    let l = get_or low p 0 in
    let few : h < 16 = omega (arith, le_or_l h l, digits) in
    let less : l < 16 = omega (arith, le_or_r h l, digits) in
    let scaled = zip2 times high (replicate 16 16) in
    let long : length scaled ≡ 16 = length-zip2 times high (replicate 16 16) many ∙ many in
    let lane : get_or scaled p 0 ≡ (h * 16) % 256 =
    get_or-zip2 times high (replicate 16 16) p 0 0 0 (omega (arith, many, within)) within
    ∙ ap (times h) (get_or-replicate {A = ℕ} 16 p 16 0 within) in
    let sum : byte ≡ plus (get_or scaled p 0) l = is
    ∙ get_or-zip2 plus scaled low p 0 0 0 (omega (arith, long, within)) (omega (arith, same, within)) in
    record {
      high = h;
      low = l;
      first_is = are_high.each p within few;
      second_is = are_low.each p within less;
      byte_is = omega (arith, sum, lane, few, less);
    }

module _ (text : List ℕ) (at : ℕ) (row : List ℕ) (room : at + 66 ≤ length text) (sixteen : length row ≡ 16)
    (pairs : (k : ℕ) → k < 16 → IsPair (get_or text (at + 3 * k) 0) (get_or text (at + 1 + 3 * k) 0) (get_or row k 0))
    (spaced : (k : ℕ) → k < 15 → get_or text (at + 2 + 3 * k) 0 ≡ 32) where
  abbrev line : List ℕ
  line = chunk at 47 text

  long : length line ≡ 47
  long = length-chunk at 47 text (omega (arith, room))

  byte_at : (i n : ℕ) → i < 47 → n ≡ at + i → get_or line i 0 ≡ get_or text n 0
  byte_at i n within same = get_or-chunk at 47 text i 0 within ∙ ap (λ j. get_or text j 0) (sym same)

  pair_at : (k i : ℕ) → k < 16 → i ≡ 3 * k → (before rest : List ℕ)
      → data_from before None (get_or line i 0 ∷ get_or line (i + 1) 0 ∷ rest)
      ≡ data_from (before ++ get_or row k 0 ∷ []) None rest
  pair_at k i few is before rest =
      rw (
        byte_at i (at + 3 * k) (omega (arith, few, is)) (omega (arith, is)),
        byte_at (i + 1) (at + 1 + 3 * k) (omega (arith, few, is)) (omega (arith, is)),
      )
      (pair_read _ _ _ (pairs k few) before rest)

  passed : (k : ℕ) → k ≤ 15 → data_from [] None line ≡ data_from (take k row) None (drop (3 * k) line)
  passed zero few = refl
  passed (suc k) few =
      passed k (omega (arith, few))
      ∙ pair_passed line (take k row) (get_or row k 0) (3 * k) (3 * suc k) (omega arith) (omega (arith, few, long))
      (pair_at k (3 * k) (omega (arith, few)) refl)
      (byte_at (3 * k + 2) (at + 2 + 3 * k) (omega (arith, few)) (omega arith) ∙ spaced k (omega (arith, few)))
      ∙ ap (λ bytes. data_from bytes None (drop (3 * suc k) line))
      (sym (take_more row k 0 (omega (arith, few, sixteen))) ∙ ap (λ n. take n row) (add-one k))

  pub row_is : get_or text (at + 47) 0 ≡ 10 → IsRowAt text at row
  row_is ended = record {
    within = omega (arith, room);
    sixteen = sixteen;
    spells = passed 15 (omega arith)
        ∙ last_pair line (take 15 row) (get_or row 15 0) 45 (omega (arith, long)) (pair_at 15 45 (omega arith) refl)
        ∙ ap Data (sym (take_more row 15 0 (omega (arith, sixteen))) ∙ take_all 16 row (omega (arith, sixteen)));
    ended = ended;
  }
