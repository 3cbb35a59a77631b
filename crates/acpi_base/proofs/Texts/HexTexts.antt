-- The hex digits of a number: how they are made, one after another, and that they are read back.
use Rattle.std.proofs.Common.{◌≡◌, ℕ, zero, suc, ◌+◌, ◌*◌, ◌/◌, ◌%◌, ◌^◌, ◌<◌, ◌≤◌, Bool, true, false, cond, List, [], ◌∷◌, ◌++◌, length, take, drop, take-append-drop, IsTrue, ◌↔◌, refl, sym, ap, ◌∙◌, subst, inl, inr, append_assoc, arith}
use Rattle.std.specs.Prelude.{◌&&◌, nat_eq, codes, unwrap_or}
use Rattle.std.specs.Cmp.Lexicographic.{same_text}
use Rattle.std.specs.Fmt.{digits, digits_onto, digit_glyph}
use Rattle.std.specs.List.{list_all, starts_with}
use Rattle.std.proofs.lemmas.Bool.{cases_lt}
use Rattle.std.proofs.lemmas.List.Folds.{list_all-append}
use borrow.Author.Tests.{eq-eqb, ne_eqb, eqb-true}
use lib.ListN.{length-append}
use Rattle.acpi_base.specs.Text.ImageText.{digit_of, hex_number}
use Rattle.acpi_base.specs.Text.WitnessText.{hex_text, is_no_blank}

-- ---- how they are made

abbrev spell : ℕ → ℕ → List ℕ → List ℕ
spell k n rest = digits_onto k 16 false n rest

abbrev last_digit : ℕ → ℕ
last_digit n = digit_glyph false (n % 16)

whole : (n : ℕ) → spell 64 n [] ≡ digits 16 false n
unfolding digits
whole n = refl

spell_last : (k n : ℕ) (rest : List ℕ) → n < 16 → spell (suc k) n rest ≡ last_digit n ∷ rest
spell_last k n rest small =
    ap (λ t. cond t (last_digit n ∷ rest) (spell k (n / 16) (last_digit n ∷ rest))) (eq-eqb (n / 16) 0 (omega arith))

spell_next : (k n : ℕ) (rest : List ℕ) → 16 ≤ n → spell (suc k) n rest ≡ spell k (n / 16) (last_digit n ∷ rest)
spell_next k n rest large =
    ap (λ t. cond t (last_digit n ∷ rest) (spell k (n / 16) (last_digit n ∷ rest)))
    (ne_eqb (n / 16) 0 (λ e. omega arith))

spell-append : (k n : ℕ) (rest : List ℕ) → spell k n rest ≡ spell k n [] ++ rest
spell-append zero n rest = refl
spell-append (suc k) n rest =
    elim (cases_lt n 16) [
      | inl small ↦ spell_last k n rest small ∙ ap (λ x. x ++ rest) (sym (spell_last k n [] small))
      | inr large ↦
          spell_next k n rest large ∙ spell-append k (n / 16) (last_digit n ∷ rest)
          ∙ sym (append_assoc (spell k (n / 16) []) (last_digit n ∷ []) rest)
          ∙ ap (λ x. x ++ rest) (sym (spell_next k n [] large ∙ spell-append k (n / 16) (last_digit n ∷ [])))
    ]

spell_enough : (j k n : ℕ) (rest : List ℕ) → n < 16 ^ suc j → n < 16 ^ suc k
    → spell (suc j) n rest ≡ spell (suc k) n rest
spell_enough zero k n rest p q = spell_last zero n rest (omega arith) ∙ sym (spell_last k n rest (omega arith))
spell_enough (suc j) zero n rest p q =
    spell_last (suc j) n rest (omega arith) ∙ sym (spell_last zero n rest (omega arith))
spell_enough (suc j) (suc k) n rest p q =
    elim (cases_lt n 16) [
      | inl small ↦ spell_last (suc j) n rest small ∙ sym (spell_last (suc k) n rest small)
      | inr large ↦ spell_next (suc j) n rest large ∙ spell_enough j k (n / 16) (last_digit n ∷ rest) (omega arith)
          (omega arith) ∙ sym (spell_next (suc k) n rest large)
    ]

pub hex_last : (n : ℕ) → n < 16 → digits 16 false n ≡ digit_glyph false n ∷ []
hex_last n small = sym (whole n) ∙ spell_last 63 n [] small ∙ ap (λ (d : ℕ). digit_glyph false d ∷ []) (omega arith)

pub hex_next : (n : ℕ) → 16 ≤ n → n < 2 ^ 64
    → digits 16 false n ≡ digits 16 false (n / 16) ++ (digit_glyph false (n % 16) ∷ [])
hex_next n large fits =
    sym (whole n) ∙ spell_next 63 n [] large ∙ spell_enough 62 63 (n / 16) (last_digit n ∷ []) (omega arith)
    (omega arith) ∙ spell-append 64 (n / 16) (last_digit n ∷ [])
    ∙ ap (λ x. x ++ (last_digit n ∷ [])) (whole (n / 16))

-- ---- what holds of one digit and of one more holds of all

module _ (P : ℕ → List ℕ → Type 0) (one : (n : ℕ) → n < 16 → P n (digit_glyph false n ∷ []))
    (more : (n : ℕ) (ds : List ℕ) → 16 ≤ n → P (n / 16) ds → P n (ds ++ (digit_glyph false (n % 16) ∷ []))) where
  by : (k n : ℕ) → n ≤ k → n < 2 ^ 64 → P n (digits 16 false n)
  by zero n below fits = subst (P n) (sym (hex_last n (omega arith))) (one n (omega arith))
  by (suc k) n below fits =
      elim (cases_lt n 16) [
        | inl small ↦ subst (P n) (sym (hex_last n small)) (one n small)
        | inr large ↦ subst (P n) (sym (hex_next n large fits))
            (more n (digits 16 false (n / 16)) large (by k (n / 16) (omega arith) (omega arith)))
      ]

  pub hex_by_digits : (n : ℕ) → n < 2 ^ 64 → P n (digits 16 false n)
  hex_by_digits n fits = by n n (omega arith) fits

-- ---- they are read back

glyph_is : (d : ℕ) → d < 16 → (unwrap_or (digit_of (digit_glyph false d)) 0 ≡ d)
    × (is_no_blank (digit_glyph false d) ≡ true)
unfolding digit_of
glyph_is zero _ = (refl, refl)
glyph_is (suc zero) _ = (refl, refl)
glyph_is (suc (suc zero)) _ = (refl, refl)
glyph_is (suc (suc (suc zero))) _ = (refl, refl)
glyph_is (suc (suc (suc (suc zero)))) _ = (refl, refl)
glyph_is (suc (suc (suc (suc (suc zero))))) _ = (refl, refl)
glyph_is (suc (suc (suc (suc (suc (suc zero)))))) _ = (refl, refl)
glyph_is (suc (suc (suc (suc (suc (suc (suc zero))))))) _ = (refl, refl)
glyph_is (suc (suc (suc (suc (suc (suc (suc (suc zero)))))))) _ = (refl, refl)
glyph_is (suc (suc (suc (suc (suc (suc (suc (suc (suc zero))))))))) _ = (refl, refl)
glyph_is (suc (suc (suc (suc (suc (suc (suc (suc (suc (suc zero)))))))))) _ = (refl, refl)
glyph_is (suc (suc (suc (suc (suc (suc (suc (suc (suc (suc (suc zero))))))))))) _ = (refl, refl)
glyph_is (suc (suc (suc (suc (suc (suc (suc (suc (suc (suc (suc (suc zero)))))))))))) _ = (refl, refl)
glyph_is (suc (suc (suc (suc (suc (suc (suc (suc (suc (suc (suc (suc (suc zero))))))))))))) _ = (refl, refl)
glyph_is (suc (suc (suc (suc (suc (suc (suc (suc (suc (suc (suc (suc (suc (suc zero)))))))))))))) _ = (refl, refl)
glyph_is (suc (suc (suc (suc (suc (suc (suc (suc (suc (suc (suc (suc (suc (suc (suc zero))))))))))))))) _ = (refl, refl)
glyph_is (suc (suc (suc (suc (suc (suc (suc (suc (suc (suc (suc (suc (suc (suc (suc (suc d)))))))))))))))) small =
    absurd (omega arith)

hex_number-push : (value : ℕ) (ds : List ℕ) (c : ℕ)
    → hex_number value (ds ++ (c ∷ [])) ≡ 16 * hex_number value ds + unwrap_or (digit_of c) 0
unfolding hex_number
hex_number-push value [] c = refl
hex_number-push value (d ∷ ds) c = hex_number-push (16 * value + unwrap_or (digit_of d) 0) ds c

pub hex_reads_back : (n : ℕ) → n < 2 ^ 64 → hex_number 0 (digits 16 false n) ≡ n
unfolding hex_number
hex_reads_back n fits =
    hex_by_digits (λ m ds. hex_number 0 ds ≡ m) one
    (λ m ds large here. hex_number-push 0 ds (last_digit m)
    ∙ (let last = (glyph_is (m % 16) (omega arith)).0 in omega arith)) n fits
  where
    one : (m : ℕ) → m < 16 → hex_number 0 (digit_glyph false m ∷ []) ≡ m
    one m small = let is = (glyph_is m small).0 in omega arith

pub hex_has_no_blank : (n : ℕ) → n < 2 ^ 64 → list_all is_no_blank (hex_text n) ≡ true
unfolding hex_text
hex_has_no_blank n fits =
    hex_by_digits (λ _ ds. list_all is_no_blank ds ≡ true) (λ m small. ap (λ b. b && true) (glyph_is m small).1)
    (λ m ds large here. list_all-append is_no_blank ds (last_digit m ∷ [])
    ∙ (let last = (glyph_is (m % 16) (omega arith)).1 in rw (here, last) refl)) n fits

pub length-hex : (n : ℕ) → n < 2 ^ 64 → length (digits 16 false n) ≤ 16
length-hex n fits =
    hex_by_digits (λ m ds. (j : ℕ) → 0 < j → m < 16 ^ j → length ds ≤ j) (λ m small j some below. omega arith) more n
    fits 16 (omega arith) (omega arith)
  where
    more : (m : ℕ) (ds : List ℕ) → 16 ≤ m → ((j : ℕ) → 0 < j → m / 16 < 16 ^ j → length ds ≤ j) → (j : ℕ) → 0 < j
        → m < 16 ^ j → length (ds ++ (digit_glyph false (m % 16) ∷ [])) ≤ j
    more m ds large shorter zero some below = absurd (omega arith)
    more m ds large shorter (suc zero) some below = absurd (omega arith)
    more m ds large shorter (suc (suc j)) some below =
        omega (arith, length-append ds (digit_glyph false (m % 16) ∷ []), shorter (suc j) (omega arith) (omega arith))

-- ---- one digit after another, from the last

push_same : (xs ys : List ℕ) (a b : ℕ) → xs ++ (a ∷ []) ≡ ys ++ (b ∷ []) → (xs ≡ ys) × (a ≡ b)
push_same [] [] a b e = (refl, cc)
push_same [] (y ∷ ys) a b e = absurd (omega (arith, ap length e, length-append ys (b ∷ [])))
push_same (x ∷ xs) [] a b e = absurd (omega (arith, ap length e, length-append xs (a ∷ [])))
push_same (x ∷ xs) (y ∷ ys) a b e =
    let tails : xs ++ (a ∷ []) ≡ ys ++ (b ∷ []) = cc in
    let heads : x ≡ y = cc in
    let same = push_same xs ys a b tails in
    ((let rest = same.0 in cc), same.1)

only_digit : {text front : List ℕ} {last n : ℕ} → text ≡ front ++ (last ∷ []) → n < 16 → text ≡ digits 16 false n
    → (front ≡ []) × (last ≡ digit_glyph false n)
only_digit {front = front} {last} {n} ends small is =
    push_same front [] last (digit_glyph false n) (sym ends ∙ is ∙ hex_last n small)

last_of_digits : {text front : List ℕ} {last n : ℕ} → text ≡ front ++ (last ∷ []) → 16 ≤ n → n < 2 ^ 64
    → text ≡ digits 16 false n → (front ≡ digits 16 false (n / 16)) × (last ≡ digit_glyph false (n % 16))
last_of_digits {front = front} {last} {n} ends large fits is =
    push_same front (digits 16 false (n / 16)) last (digit_glyph false (n % 16)) (sym ends ∙ is ∙ hex_next n large fits)

pub some_digit : (n : ℕ) → n < 2 ^ 64 → 0 < length (digits 16 false n)
some_digit n fits =
    hex_by_digits (λ _ ds. 0 < length ds) (λ m small. omega arith)
    (λ m ds large here. omega (arith, length-append ds (last_digit m ∷ []))) n fits

-- ---- comparing a text with them

pub spells_one : (text front : List ℕ) (last digit n : ℕ) → text ≡ front ++ (last ∷ []) → length front ≡ 0 → n < 16
    → digit ≡ digit_glyph false n → IsTrue (nat_eq last digit) ↔ (text ≡ digits 16 false n)
spells_one text front last digit n ends none small is = (
  λ yes. ends ∙ rw (empty front none, eqb-true last digit yes, is) (sym (hex_last n small)),
  λ line. eq-eqb last digit ((only_digit ends small line).1 ∙ sym is),
)
  where
    empty : (xs : List ℕ) → length xs ≡ 0 → xs ≡ []
    empty [] e = refl
    empty (x ∷ xs) e = absurd (omega arith)

pub spells_more : (text front : List ℕ) (last digit n : ℕ) (test : Bool) → text ≡ front ++ (last ∷ []) → 16 ≤ n
    → n < 2 ^ 64 → digit ≡ digit_glyph false (n % 16) → last ≡ digit
    → (IsTrue test ↔ (front ≡ digits 16 false (n / 16))) → IsTrue test ↔ (text ≡ digits 16 false n)
spells_more text front last digit n test ends large fits is same rest = (
  λ yes. ends ∙ rw (rest.0 yes, same, is) (sym (hex_next n large fits)),
  λ line. rest.1 (last_of_digits ends large fits line).0,
)

pub spells_other : (text front : List ℕ) (last digit n : ℕ) → text ≡ front ++ (last ∷ []) → 16 ≤ n → n < 2 ^ 64
    → digit ≡ digit_glyph false (n % 16) → ¬ (last ≡ digit) → IsTrue (nat_eq last digit) ↔ (text ≡ digits 16 false n)
spells_other text front last digit n ends large fits is other = (
  λ yes. absurd (other (eqb-true last digit yes)),
  λ line. absurd
      (other ((last_of_digits ends large fits line).1 ∙ sym is)),
)

-- ---- what comes before the digits

begins : (rest : List ℕ) → starts_with nat_eq (codes "0x" ++ rest) (codes "0x") ≡ true
begins rest = refl

pub hex_begins : (text : List ℕ) (n : ℕ) → text ≡ hex_text n → starts_with nat_eq text (codes "0x") ≡ true
unfolding hex_text
hex_begins text n is = rw is (begins (digits 16 false n))

pub hex_goes_on : (text : List ℕ) (n : ℕ) → text ≡ hex_text n → drop 2 text ≡ digits 16 false n
unfolding hex_text
hex_goes_on text n is = rw is refl

pub hex_whole : (text : List ℕ) (n : ℕ) → starts_with nat_eq text (codes "0x") ≡ true → drop 2 text ≡ digits 16 false n
    → text ≡ hex_text n
unfolding hex_text
hex_whole text n starts rest =
    let front : take 2 text ≡ codes "0x" = sym (same_text (codes "0x") (take 2 text) (sym starts)) in
    sym (take-append-drop 2 text) ∙ rw (front, rest) refl
