-- What the lines of a written text say.
use Rattle.std.proofs.Common.{◌≡◌, ◌≢◌, ℕ, zero, suc, ◌+◌, ◌-◌, ◌*◌, ◌/◌, ◌%◌, ◌^◌, ◌<◌, ◌≤◌, inl, inr, true, false, not, List, [], ◌∷◌, ◌++◌, length, get_or, drop, Some, None, refl, sym, ap, ◌∙◌, subst, arith, append_assoc}
use Rattle.std.specs.Prelude.{take_while, ◌==◌, is_some}
use Rattle.std.specs.List.{AllByRecursion, prefix_len}
use Rattle.std.specs.Fmt.{digits, digits_onto, digit_glyph}
use Rattle.std.proofs.lemmas.Bool.{cases_lt, cases_eq, ne_eqb, eq-eqb, lt-ltb, le-ltb, le-leb, lt-leb}
use Rattle.std.proofs.Math.Nat.{pow-succ'}
use Rattle.std.proofs.lemmas.List.{take_all, drop_all, append-nil}
use Rattle.acpi_base.specs.Text.ImageText.{Address, Data, digit_of, is_hex_digit, skip_blanks, without_cr, without_comment, form_of, line_of, address_line_of, hex_number, data_from, ended_lines_from, last_line_from}
use Rattle.acpi_base.specs.Text.WrittenText.{pair, spaced_pairs, row, address_line}
use Rattle.acpi_base.proofs.Texts.DataLines.{blank_read}

pub glyph_read : (d : ℕ) → d < 16 → digit_of (digit_glyph false d) ≡ Some d
unfolding digit_of
glyph_read d h =
    elim (cases_lt d 10) [
      | inl low ↦
          let back : 48 + d - 48 ≡ d = omega arith in
          rw (lt-ltb d 10 low, le-leb 48 (48 + d) (omega arith), le-leb (48 + d) 57 (omega arith), back) refl
      | inr high ↦
          let back : 87 + d - 87 ≡ d = omega arith in
          rw (
            le-ltb d 10 high,
            le-leb 48 (87 + d) (omega arith),
            lt-leb (87 + d) 57 (omega arith),
            le-leb 65 (87 + d) (omega arith),
            lt-leb (87 + d) 70 (omega arith),
            le-leb 97 (87 + d) (omega arith),
            le-leb (87 + d) 102 (omega arith),
            back,
          ) refl
    ]

-- bytes of a line that neither end nor cut it
abbrev pub Plain : ℕ → Type 0
Plain c = (32 ≤ c) × (c ≢ 35)

abbrev pub Glyph : ℕ → Type 0
Glyph c = (48 ≤ c) × (c ≢ 64)

pub glyph_is : (d : ℕ) → d < 16 → Glyph (digit_glyph false d)
glyph_is d h =
    elim (cases_lt d 10) [
      | inl low ↦ rw (lt-ltb d 10 low) (omega arith, λ e. absurd (omega (arith, e)))
      | inr high ↦ rw (le-ltb d 10 high) (omega arith, λ e. absurd (omega (arith, e)))
    ]

plain_glyph : (c : ℕ) → Glyph c → Plain c
plain_glyph c g = (omega (arith, g.0), λ e. absurd (omega (arith, g.0, e)))

all_append : (P : ℕ → Type 0) (xs ys : List ℕ) → AllByRecursion P xs → AllByRecursion P ys → AllByRecursion P (xs ++ ys)
all_append P [] ys a b = b
all_append P (x ∷ xs) ys a b = (a.0, all_append P xs ys a.1 b)

-- ---- plain lines

plain_at : (line : List ℕ) (k : ℕ) → AllByRecursion Plain line → get_or line k 0 ≢ 13
plain_at [] k all = λ e. absurd (omega (arith, e))
plain_at (c ∷ line) zero all = λ e. absurd (omega (arith, all.0.0, e))
plain_at (c ∷ line) (suc k) all = plain_at line k all.1

no_cr : (line : List ℕ) → AllByRecursion Plain line → without_cr line ≡ line
no_cr line all = rw (ne_eqb (get_or line (length line - 1) 0) 13 (plain_at line (length line - 1) all)) refl

no_comment_len : (line : List ℕ) → AllByRecursion Plain line → prefix_len (λ b. not (b == 35)) line ≡ length line
no_comment_len [] all = refl
no_comment_len (c ∷ line) all =
    let rest = no_comment_len line all.1 in
    rw (ne_eqb c 35 all.0.1) (omega (arith, rest))

no_comment : (line : List ℕ) → AllByRecursion Plain line → without_comment line ≡ line
no_comment line all = take_all (prefix_len (λ b. not (b == 35)) line) line (omega (arith, no_comment_len line all))

plain_line : (c : ℕ) (line : List ℕ) → 33 ≤ c → AllByRecursion Plain (c ∷ line)
    → line_of (c ∷ line) ≡ form_of (c ∷ line)
unfolding line_of skip_blanks
plain_line c line high all =
    rw (
      no_cr (c ∷ line) all,
      no_comment (c ∷ line) all,
      ne_eqb c 32 (λ e. absurd (omega (arith, e))),
      ne_eqb c 9 (λ e. absurd (omega (arith, e))),
    ) refl

-- ---- data lines

spaced_plain : (bs : List ℕ) → AllByRecursion (λ b. b < 256) bs → AllByRecursion Plain (spaced_pairs bs)
unfolding spaced_pairs
spaced_plain [] low = tt
spaced_plain (b ∷ bs) low =
    let l = low.0 in (
      (omega arith, λ e. absurd (omega (arith, e))),
      (
        plain_glyph _ (glyph_is (b / 16) (omega arith)),
        (
          plain_glyph _ (glyph_is (b % 16) (omega arith)),
          spaced_plain bs low.1,
        ),
      ),
    )

pub length-spaced_pairs : (bs : List ℕ) → length (spaced_pairs bs) ≡ 3 * length bs
unfolding spaced_pairs
length-spaced_pairs [] = refl
length-spaced_pairs (b ∷ bs) = omega (arith, length-spaced_pairs bs)

pair_read : (bytes : List ℕ) (b : ℕ) (rest : List ℕ) → b < 256
    → data_from bytes None (pair b ++ rest) ≡ data_from (bytes ++ b ∷ []) None rest
unfolding data_from
pair_read bytes b rest low =
    let high_read = glyph_read (b / 16) (omega arith) in
    let low_read = glyph_read (b % 16) (omega arith) in
    let whole : 16 * (b / 16) + b % 16 ≡ b = omega arith in
    rw (high_read, low_read, whole) refl

data_end : (bytes : List ℕ) → data_from bytes None [] ≡ Data bytes
unfolding data_from
data_end bytes = refl

spaced_read : (bytes bs : List ℕ) → AllByRecursion (λ b. b < 256) bs
    → data_from bytes None (spaced_pairs bs) ≡ Data (bytes ++ bs)
unfolding spaced_pairs
spaced_read bytes [] low = data_end bytes ∙ ap Data (sym (append-nil bytes))
spaced_read bytes (b ∷ bs) low =
    blank_read bytes (pair b ++ spaced_pairs bs) ∙ pair_read bytes b (spaced_pairs bs) low.0
    ∙ spaced_read (bytes ++ b ∷ []) bs low.1 ∙ ap Data (append_assoc bytes (b ∷ []) bs)

pub row_line : (bs : List ℕ) → 0 < length bs → AllByRecursion (λ b. b < 256) bs → line_of (row bs) ≡ Data bs
unfolding row form_of
row_line [] some low = absurd (omega arith)
row_line (b ∷ bs) some low =
    let l = low.0 in
    let g = glyph_is (b / 16) (omega arith) in
    let all : AllByRecursion Plain (pair b ++ spaced_pairs bs) =
    (plain_glyph _ g, (plain_glyph _ (glyph_is (b % 16) (omega arith)), spaced_plain bs low.1)) in
    plain_line (digit_glyph false (b / 16)) (digit_glyph false (b % 16) ∷ spaced_pairs bs) (omega (arith, g.0)) all
    ∙ rw (ne_eqb (digit_glyph false (b / 16)) 64 g.1)
    (pair_read [] b (spaced_pairs bs) low.0 ∙ spaced_read (b ∷ []) bs low.1)

pub row_plain : (bs : List ℕ) → AllByRecursion (λ b. b < 256) bs → AllByRecursion Plain (row bs)
unfolding row
row_plain [] low = tt
row_plain (b ∷ bs) low =
    let l = low.0 in (
      plain_glyph _ (glyph_is (b / 16) (omega arith)),
      (plain_glyph _ (glyph_is (b % 16) (omega arith)), spaced_plain bs low.1),
    )

pub length-row : (bs : List ℕ) → length (row bs) ≤ 3 * length bs
unfolding row
length-row [] = omega arith
length-row (b ∷ bs) = omega (arith, length-spaced_pairs bs)

-- ---- address lines

-- lower case hex digits of n before others
record AreDigits (n : ℕ) (ds rest : List ℕ) : Type 0 where
  number : hex_number 0 ds ≡ hex_number n rest
  some : 0 < length ds
  all : AllByRecursion (λ c. Glyph c × (is_hex_digit c ≡ true)) rest
      → AllByRecursion (λ c. Glyph c × (is_hex_digit c ≡ true)) ds

digit_is : (d : ℕ) → d < 16 → Glyph (digit_glyph false d) × (is_hex_digit (digit_glyph false d) ≡ true)
digit_is d h = (glyph_is d h, ap is_some (glyph_read d h))

digit_in : (value d : ℕ) (rest : List ℕ) → d < 16
    → hex_number value (digit_glyph false d ∷ rest) ≡ hex_number (16 * value + d) rest
unfolding hex_number
digit_in value d rest h = rw (glyph_read d h) refl

digits_are : (k n : ℕ) (rest : List ℕ) → 0 < k → n < 16 ^ k → AreDigits n (digits_onto k 16 false n rest) rest
digits_are zero n rest some fits = absurd (omega arith)
digits_are (suc zero) n rest some fits =
    let nil : n / 16 ≡ 0 = omega arith in
    let value : 16 * 0 + n % 16 ≡ n = omega arith in
    rw (eq-eqb (n / 16) 0 nil)
    (record {
      number = digit_in 0 (n % 16) rest (omega arith) ∙ ap (λ (v : ℕ). hex_number v rest) value;
      some = omega arith;
      all = λ more. (digit_is (n % 16) (omega arith), more);
    })
digits_are (suc (suc k)) n rest some fits =
    let wide : n < 16 * 16 ^ suc k = subst (λ (x : ℕ). n < x) (pow-succ' 16 (suc k)) fits in
    elim (cases_eq (n / 16) 0) [
      | inl nil ↦
          let value : 16 * 0 + n % 16 ≡ n = omega arith in
          rw (eq-eqb (n / 16) 0 nil)
          (record {
            number = digit_in 0 (n % 16) rest (omega arith) ∙ ap (λ (v : ℕ). hex_number v rest) value;
            some = omega arith;
            all = λ more. (digit_is (n % 16) (omega arith), more);
          })
      | inr high ↦
          let value : 16 * (n / 16) + n % 16 ≡ n = omega arith in
          let further = digits_are (suc k) (n / 16) (digit_glyph false (n % 16) ∷ rest) (omega arith) (omega arith) in
          rw (ne_eqb (n / 16) 0 high)
          (record {
            number = further.number ∙ digit_in (n / 16) (n % 16) rest (omega arith)
                ∙ ap (λ (v : ℕ). hex_number v rest) value;
            some = further.some;
            all = λ more. further.all (digit_is (n % 16) (omega arith), more);
          })
    ]

digits_few : (k j n : ℕ) (rest : List ℕ) → 0 < j → n < 16 ^ j → length (digits_onto k 16 false n rest) ≤ j + length rest
digits_few zero j n rest some fits = omega arith
digits_few (suc k) zero n rest some fits = absurd (omega arith)
digits_few (suc k) (suc j) n rest some fits =
    let wide : n < 16 * 16 ^ j = subst (λ (x : ℕ). n < x) (pow-succ' 16 j) fits in
    elim (cases_eq (n / 16) 0) [
      | inl nil ↦ rw (eq-eqb (n / 16) 0 nil) (omega arith)
      | inr high ↦
          let above : 0 < j = positive j wide high in
          let further = digits_few k j (n / 16) (digit_glyph false (n % 16) ∷ rest) above (omega arith) in
          rw (ne_eqb (n / 16) 0 high) (omega (arith, further))
    ]
  where
    positive : (j : ℕ) → n < 16 * 16 ^ j → (n / 16 ≡ 0 → ⊥) → 0 < j
    positive zero wide high = absurd (high (omega arith))
    positive (suc j) wide high = omega arith

hex_end : (a : ℕ) → hex_number a [] ≡ a
unfolding hex_number
hex_end a = refl

abbrev HexGlyph : ℕ → Type 0
HexGlyph c = Glyph c × (is_hex_digit c ≡ true)

all_hex_len : (ds : List ℕ) → AllByRecursion HexGlyph ds → prefix_len is_hex_digit ds ≡ length ds
all_hex_len [] all = refl
all_hex_len (d ∷ ds) all =
    let rest = all_hex_len ds all.1 in
    rw all.0.1 (omega (arith, rest))

hex_plain : (ds : List ℕ) → AllByRecursion HexGlyph ds → AllByRecursion Plain ds
hex_plain [] all = tt
hex_plain (d ∷ ds) all = (plain_glyph d all.0.0, hex_plain ds all.1)

address_read : (ds : List ℕ) (a : ℕ) → AllByRecursion HexGlyph ds → 0 < length ds → length ds ≤ 16 → hex_number 0 ds ≡ a
    → address_line_of ds ≡ Address a
unfolding address_line_of
address_read ds a all some few number =
    let taken : take_while is_hex_digit ds ≡ ds = take_all (prefix_len is_hex_digit ds) ds
    (omega (arith, all_hex_len ds all)) in
    let none : drop (length ds) ds ≡ [] = drop_all (length ds) ds (omega arith) in
    rw (taken, none, le-leb 1 (length ds) some, le-leb (length ds) 16 few, number) refl

pub record IsAddressLine (a : ℕ) : Type 0 where
  pub says : line_of (address_line a) ≡ Address a
  pub plain : AllByRecursion Plain (address_line a)
  pub short : length (digits 16 false a) ≤ 16

pub address_line_is : (a : ℕ) → a < 2 ^ 64 → IsAddressLine a
unfolding digits form_of
address_line_is a fits =
    let ds = digits_onto 64 16 false a [] in
    let are = digits_are 64 a [] (omega arith) (omega arith) in
    let few : length ds ≤ 16 = (let n = digits_few 64 16 a [] (omega arith) (omega arith) in omega (arith, n)) in
    let all = are.all tt in
    let number : hex_number 0 ds ≡ a = are.number ∙ hex_end a in
    let plain : AllByRecursion Plain (64 ∷ ds) = ((omega arith, λ e. absurd (omega (arith, e))), hex_plain ds all) in
    record {
      says = plain_line 64 ds (omega arith) plain ∙ address_read ds a all are.some few number;
      plain = plain;
      short = few;
    }

-- ---- lines of a text

pub ended_line : (line front rest : List ℕ) → AllByRecursion Plain line
    → ended_lines_from front (line ++ 10 ∷ rest) ≡ (front ++ line) ∷ ended_lines_from [] rest
unfolding ended_lines_from
ended_line [] front rest all = ap (λ (l : List ℕ). l ∷ ended_lines_from [] rest) (sym (append-nil front))
ended_line (c ∷ line) front rest all =
    rw (ne_eqb c 10 (λ e. absurd (omega (arith, all.0.0, e))))
    (ended_line line (front ++ c ∷ []) rest all.1 ∙ ap (λ (l : List ℕ). l ∷ ended_lines_from [] rest)
    (append_assoc front (c ∷ []) line))

pub last_of_line : (line front rest : List ℕ) → AllByRecursion Plain line
    → last_line_from front (line ++ 10 ∷ rest) ≡ last_line_from [] rest
unfolding last_line_from
last_of_line [] front rest all = refl
last_of_line (c ∷ line) front rest all =
    rw (ne_eqb c 10 (λ e. absurd (omega (arith, all.0.0, e)))) (last_of_line line (front ++ c ∷ []) rest all.1)
