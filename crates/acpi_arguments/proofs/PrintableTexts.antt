-- Printed characters, and texts of them.
use Rattle.std.proofs.Common.{◌≡◌, ℕ, ◌+◌, ◌-◌, ◌*◌, ◌/◌, ◌%◌, ◌<◌, ◌≤◌, Bool, true, false, not, nat_lt, List, [], ◌∷◌, ◌++◌, length, get_or, inl, inr, refl, sym, ap, ◌∙◌, arith, append-nil, append_assoc, codes, length-append, encode_utf8, IsUtf8, IsAscii}
use Rattle.std.proofs.lemmas.Bool.{and_parts, cases_order, not-true}
use Rattle.std.proofs.lemmas.Bool.Decides.{nat_tests}
use Rattle.std.proofs.lemmas.List.Folds.{list_all-append, list_any_more}
use Rattle.std.proofs.lemmas.Str.Ascii.{IsAscii-cons, IsAscii-nil}
use Rattle.std.proofs.Math.ListN.{take}
use Rattle.std.proofs.Math.Seq.{get_or-append_seam}
use Rattle.std.proofs.lemmas.List.{get_or_append_left, nil_from_length}
use Rattle.std.proofs.lemmas.Str.{IsUtf8-nil, IsUtf8-append, IsUtf8-encode, IsUtf8-from_ascii, IsUtf8-past_char, chars-IsAscii, chars-append, chars-nil, chars_past_char, length-encode, len_utf8_bounds, scalars-chars}
use Rattle.std.specs.Char.{IsScalar, digit_char, len_utf8}
use Rattle.std.specs.Global.{Global}
use Rattle.std.specs.Prelude.{String}
use Rattle.std.specs.List.{list_all, list_any}
use Rattle.std.specs.Str.{chars}
use Rattle.std.specs.String.{string_bytes}
use Rattle.acpi_arguments.specs.Printable.{IsPrinted, escape, hex_byte, hidden_ranges, is_hidden, is_printable, is_within, visible}

-- ---- characters

plain_code : (c : ℕ) → 32 ≤ c → c < 127 → is_hidden c ≡ false
unfolding is_hidden
plain_code c low high = grind (arith, nat_tests)

digit_from : (d : ℕ) → d < 16 → 32 ≤ digit_char d
digit_from d small = grind (arith, nat_tests)

pub digit_below : (d : ℕ) → d < 16 → digit_char d < 127
digit_below d small = grind (arith, nat_tests)

-- ---- texts of ASCII that print

abbrev ArePlain : List ℕ → Type 0
ArePlain [] = Unit {0}
ArePlain (b ∷ bs) = (32 ≤ b) × ((b < 127) × ArePlain bs)

plain_ascii : (bs : List ℕ) → ArePlain bs → IsAscii bs
plain_ascii [] plain = IsAscii-nil
plain_ascii (b ∷ bs) plain = IsAscii-cons b bs (omega (arith, plain.1.0)) (plain_ascii bs plain.1.1)

plain_test : (bs : List ℕ) → ArePlain bs → list_all (λ c. not (is_hidden c)) bs ≡ true
plain_test [] plain = refl
plain_test (b ∷ bs) plain = rw (plain_code b plain.0 plain.1.0, plain_test bs plain.1.1) refl

plain_printable : (bs : List ℕ) → ArePlain bs → is_printable bs ≡ true
plain_printable bs plain = rw (chars-IsAscii bs (plain_ascii bs plain)) (plain_test bs plain)

plain_append : (front back : List ℕ) → ArePlain front → ArePlain back → ArePlain (front ++ back)
plain_append [] back first second = second
plain_append (b ∷ front) back first second = (first.0, (first.1.0, plain_append front back first.1.1 second))

plain_two : (a b : ℕ) (rest : List ℕ) → (32 ≤ a) × (a < 127) → (32 ≤ b) × (b < 127) → ArePlain rest
    → ArePlain (a ∷ b ∷ rest)
plain_two a b rest one other plain = (one.0, (one.1, (other.0, (other.1, plain))))

plain_digit : (d : ℕ) → d < 16 → (32 ≤ digit_char d) × (digit_char d < 127)
plain_digit d small = (digit_from d small, digit_below d small)

plain_byte : (b : ℕ) → b < 256 → ArePlain (hex_byte b)
plain_byte b small =
    plain_two (digit_char (b / 16)) (digit_char (b % 16)) [] (plain_digit (b / 16) (omega arith))
    (plain_digit (b % 16) (omega arith)) tt

-- ---- printed characters

-- a backslash, a letter and digits
plain_number : (letter : ℕ) (digits : List ℕ) → (32 ≤ letter) × (letter < 127) → ArePlain digits
    → ArePlain (92 ∷ letter ∷ digits)
plain_number letter digits is plain = plain_two 92 letter digits (omega arith, omega arith) is plain

plain_escape : (c : ℕ) → c < 0x100_0000 → ArePlain (escape c)
plain_escape c small = by_case (nat_lt c 0x100) (nat_lt c 0x1_0000) refl refl where
  low_bytes : ArePlain (hex_byte (c / 0x100 % 0x100) ++ hex_byte (c % 0x100))
  low_bytes =
      plain_append (hex_byte (c / 0x100 % 0x100)) (hex_byte (c % 0x100)) (plain_byte (c / 0x100 % 0x100) (omega arith))
      (plain_byte (c % 0x100) (omega arith))

  by_case : (b d : Bool) → nat_lt c 0x100 ≡ b → nat_lt c 0x1_0000 ≡ d → ArePlain (escape c)
  by_case true d low high =
      let below : c < 0x100 = grind (arith, nat_tests) in
      rw low (plain_number 120 (hex_byte c) (omega arith, omega arith) (plain_byte c below))
  by_case false true low high =
      rw (low, high)
      (plain_number 117 (hex_byte (c / 0x100 % 0x100) ++ hex_byte (c % 0x100)) (omega arith, omega arith) low_bytes)
  by_case false false low high =
      let bytes = plain_append (hex_byte (c / 0x1_0000)) (hex_byte (c / 0x100 % 0x100) ++ hex_byte (c % 0x100))
      (plain_byte (c / 0x1_0000) (omega arith)) low_bytes in
      rw (low, high)
      (plain_number 85 (48 ∷ 48 ∷ hex_byte (c / 0x1_0000) ++ hex_byte (c / 0x100 % 0x100) ++ hex_byte (c % 0x100))
      (omega arith, omega arith)
      (plain_append (hex_byte 0) (hex_byte (c / 0x1_0000) ++ hex_byte (c / 0x100 % 0x100) ++ hex_byte (c % 0x100))
      (plain_byte 0 (omega arith)) bytes))

below_24 : (c : ℕ) → IsScalar c → c < 0x100_0000
below_24 c is = grind (arith, nat_tests)

chars_of_one : (c : ℕ) → IsScalar c → chars (encode_utf8 c) ≡ c ∷ []
chars_of_one c is =
    let alone = sym (append-nil (encode_utf8 c)) in
    chars_past_char (encode_utf8 c) [] c (IsUtf8-encode c is) alone ∙ ap (λ cs. c ∷ cs) chars-nil

visible_utf8 : (c : ℕ) → IsScalar c → IsUtf8 (visible c)
visible_utf8 c is = by_case (is_hidden c) refl where
  by_case : (b : Bool) → is_hidden c ≡ b → IsUtf8 (visible c)
  by_case true e = rw e (IsUtf8-from_ascii _ (plain_ascii _ (plain_escape c (below_24 c is))))
  by_case false e = rw e (IsUtf8-encode c is)

visible_printable : (c : ℕ) → IsScalar c → is_printable (visible c) ≡ true
visible_printable c is = by_case (is_hidden c) refl where
  by_case : (b : Bool) → is_hidden c ≡ b → is_printable (visible c) ≡ true
  by_case true e = rw e (plain_printable _ (plain_escape c (below_24 c is)))
  by_case false e = rw (e, chars_of_one c is, e) refl

escape_short : (c : ℕ) → length (escape c) ≤ 4 * len_utf8 c
escape_short c = by_case (nat_lt c 0x100) (nat_lt c 0x1_0000) refl refl where
  by_case : (b d : Bool) → nat_lt c 0x100 ≡ b → nat_lt c 0x1_0000 ≡ d → length (escape c) ≤ 4 * len_utf8 c
  by_case true d low high = rw low (omega (arith, (len_utf8_bounds c).0))
  by_case false true low high = rw (low, high) (grind (arith, nat_tests))
  by_case false false low high = rw (low, high) (grind (arith, nat_tests))

visible_short : (c : ℕ) → length (visible c) ≤ 4 * len_utf8 c
visible_short c = by_case (is_hidden c) refl where
  by_case : (b : Bool) → is_hidden c ≡ b → length (visible c) ≤ 4 * len_utf8 c
  by_case true e = rw e (escape_short c)
  by_case false e = rw (e, length-encode c) (omega arith)

-- ---- texts

printable_append : (front back : List ℕ) → IsUtf8 front → is_printable front ≡ true → is_printable back ≡ true
    → is_printable (front ++ back) ≡ true
printable_append front back utf8 first second = rw (chars-append front back utf8, list_all-append, first, second) refl

first_is_scalar : (text rest : List ℕ) (c : ℕ) → IsUtf8 text → text ≡ encode_utf8 c ++ rest → IsScalar c
first_is_scalar text rest c utf8 parts =
    (and_parts _ _ (rw (chars_past_char text rest c utf8 parts) at (scalars-chars text utf8))).0

printable_first : (text rest : List ℕ) (c : ℕ) → IsUtf8 text → text ≡ encode_utf8 c ++ rest → is_printable text ≡ true
    → (is_hidden c ≡ false) × (is_printable rest ≡ true)
printable_first text rest c utf8 parts printable =
    let both = and_parts _ _ (rw (chars_past_char text rest c utf8 parts) at printable) in
    (not-true _ both.0, both.1)

-- of a text without control characters: what is printed so far and the rest are the text, and there is room for so many
-- bytes more
pub record IsBeginning (text printed rest : List ℕ) (room : ℕ) : Type 0 where
  pub whole : printed ++ rest ≡ text
  pub size : length printed + room ≡ 200
  pub printable : is_printable rest ≡ true

-- so much of a text is printed
pub record IsBegun (text printed rest : List ℕ) (room : ℕ) : Type 0 where
  pub utf8 : IsUtf8 printed
  pub rest_utf8 : IsUtf8 rest
  pub printable : is_printable printed ≡ true
  pub short : length printed + 4 * room ≤ 800
  pub same : is_printable text ≡ true → IsBeginning text printed rest room

pub nothing_begun : (text : List ℕ) → IsUtf8 text → IsBegun text [] text 200
nothing_begun text utf8 = record {
  utf8 = IsUtf8-nil;
  rest_utf8 = utf8;
  printable = rw chars-nil refl;
  short = omega arith;
  same = λ printable. record { whole = refl; size = refl; printable = printable };
}

pub one_more : (text printed rest tail : List ℕ) (room c size : ℕ) → IsBegun text printed rest room
    → rest ≡ encode_utf8 c ++ tail → size ≡ len_utf8 c → size ≤ room
    → IsBegun text (printed ++ visible c) tail (room - size)
one_more text printed rest tail room c size begun parts is fits = record {
  utf8 = IsUtf8-append printed (visible c) begun.utf8 (visible_utf8 c scalar);
  rest_utf8 = IsUtf8-past_char rest tail c begun.rest_utf8 parts;
  printable = printable_append printed (visible c) begun.utf8 begun.printable (visible_printable c scalar);
  short = rw (length-append printed (visible c)) (omega (arith, begun.short, visible_short c));
  same = λ printable. beginning (begun.same printable);
} where
  scalar : IsScalar c
  scalar = first_is_scalar rest tail c begun.rest_utf8 parts

  beginning : IsBeginning text printed rest room → IsBeginning text (printed ++ visible c) tail (room - size)
  beginning so =
      let next = printable_first rest tail c begun.rest_utf8 parts so.printable in
      record {
        whole = rw next.0 (append_assoc printed (encode_utf8 c) tail ∙ rw (← parts) so.whole);
        size = rw (next.0, length-append printed (encode_utf8 c), length-encode c) (omega (arith, so.size));
        printable = next.1;
      }

dots_printable : is_printable (codes "...") ≡ true
unfolding chars is_hidden
dots_printable = refl

pub cut_is_printed : (text printed rest : List ℕ) (room : ℕ) → IsBegun text printed rest room
    → (is_printable text ≡ true → length text ≤ 200 → ⊥) → IsPrinted text (printed ++ codes "...")
cut_is_printed text printed rest room begun long = record {
  printable = printable_append printed (codes "...") begun.utf8 begun.printable dots_printable;
  short = rw (length-append printed (codes "...")) (omega (arith, begun.short));
  same = λ printable short. absurd (long printable short);
}

pub long_is_cut : (text printed rest tail : List ℕ) (room c size : ℕ) → IsBegun text printed rest room
    → rest ≡ encode_utf8 c ++ tail → size ≡ len_utf8 c → room < size → is_printable text ≡ true → length text ≤ 200 → ⊥
long_is_cut text printed rest tail room c size begun parts is over printable short =
    let so = begun.same printable in
    let all : length printed + length rest ≡ length text = sym (length-append printed rest) ∙ ap length so.whole in
    let more : length rest ≡ len_utf8 c + length tail =
    ap length parts ∙ length-append (encode_utf8 c) tail ∙ ap (λ n. n + length tail) (length-encode c) in
    omega (arith, so.size)

whole_is_same : (text printed rest : List ℕ) (room : ℕ) → IsBegun text printed rest room → length rest ≡ 0
    → is_printable text ≡ true → printed ≡ text
whole_is_same text printed rest room begun none printable =
    let so = begun.same printable in
    sym (append-nil printed) ∙ rw (nil_from_length rest none) at so.whole

pub whole_is_printed : (text printed rest : List ℕ) (room : ℕ) → IsBegun text printed rest room → length rest ≡ 0
    → IsPrinted text printed
whole_is_printed text printed rest room begun none = record {
  printable = begun.printable;
  short = omega (arith, begun.short);
  same = λ printable short. whole_is_same text printed rest room begun none printable;
}

-- the first n arguments are printed
abbrev pub ArePrintedTo : List (String Global) → List (String Global) → ℕ → Type 0
ArePrintedTo arguments printed n = (length printed ≡ n)
    × ((i : ℕ) (d : String Global) → i < n
    → IsPrinted (string_bytes (get_or arguments i d)) (string_bytes (get_or printed i d)))

pub none_printed : (arguments : List (String Global)) → ArePrintedTo arguments [] 0
none_printed arguments = (refl, λ i d below. absurd (omega arith))

pub one_printed : (arguments printed : List (String Global)) (text : String Global) (n : ℕ)
    → ArePrintedTo arguments printed n
    → ((d : String Global) → IsPrinted (string_bytes (get_or arguments n d)) (string_bytes text))
    → ArePrintedTo arguments (printed ++ text ∷ []) (n + 1)
one_printed arguments printed text n so is = (
  length-append printed (text ∷ []) ∙ ap (λ k. k + 1) so.0,
  λ i d below. elim (cases_order i n) [
    | inl same ↦ rw (same, ← so.0, get_or-append_seam printed text [] d) (rw so.0 (is d))
    | inr (inl less) ↦ rw (get_or_append_left printed (text ∷ []) d i (omega (arith, so.0))) (so.1 i d less)
    | inr (inr more) ↦ absurd (omega arith)
  ],
)

-- no range before one is that of a character, nor is that one
pub none_within : (c i : ℕ) (d : ℕ × ℕ) → i < length hidden_ranges
    → list_any (is_within c) (take i hidden_ranges) ≡ false → is_within c (get_or hidden_ranges i d) ≡ false
    → list_any (is_within c) (take (i + 1) hidden_ranges) ≡ false
none_within c i d below before here = rw (list_any_more (is_within c) hidden_ranges i d below, before) here
