-- The table of the hex digits' values.
use Rattle.std.proofs.Common.{◌≡◌, ℕ, zero, suc, ◌+◌, ◌<◌, ◌≤◌, Bool, true, ◌&&◌, List, [], ◌∷◌, length, get_or, Option, Some, None, refl, ap, ◌∙◌, arith}
use Rattle.std.specs.Prelude.{◌==◌, nat_le, nat_lt}
use Rattle.std.proofs.lemmas.Bool.{and_parts}
use Rattle.std.proofs.lemmas.Bool.Decides.{nat_tests}
use Rattle.acpi_base.specs.Text.ImageText.{digit_of}

-- a number is a digit's value, or 16 or more for no digit
abbrev pub says : ℕ → Option ℕ → Bool
says x None = nat_le 16 x
says x (Some d) = (x == d) && nat_lt d 16

-- the entries from k on are right for the bytes from k on
agrees : ℕ → List ℕ → Bool
agrees k [] = true
agrees k (x ∷ xs) = says x (digit_of k) && agrees (suc k) xs

pub small : (x : ℕ) (digit : Option ℕ) → says x digit ≡ true → x < 16 → Some x ≡ digit
small x None e l = absurd (grind (arith, nat_tests))
small x (Some d) e l = grind (arith, nat_tests, and_parts (x == d) (nat_lt d 16) e)

large : (x : ℕ) (digit : Option ℕ) → says x digit ≡ true → 16 ≤ x → None ≡ digit
large x None e l = refl
large x (Some d) e l = absurd (grind (arith, nat_tests, and_parts (x == d) (nat_lt d 16) e))

says_at : (xs : List ℕ) (k i n : ℕ) → agrees k xs ≡ true → i < length xs → n ≡ k + i
    → says (get_or xs i 0) (digit_of n) ≡ true
unfolding agrees
says_at [] k i n e l same = absurd (omega arith)
says_at (x ∷ xs) k zero n e l same =
    (let here : n ≡ k = omega arith in ap (λ j. says x (digit_of j)) here
    ∙ (and_parts (says x (digit_of k)) (agrees (suc k) xs) e).0)
says_at (x ∷ xs) k (suc i) n e l same =
    says_at xs (suc k) i n (and_parts (says x (digit_of k)) (agrees (suc k) xs) e).1 (omega arith) (omega arith)

-- the table of the code
abbrev table : List ℕ
table = 255 ∷ 255 ∷ 255 ∷ 255 ∷ 255 ∷ 255 ∷ 255 ∷ 255 ∷ 255 ∷ 255 ∷ 255 ∷ 255 ∷ 255 ∷ 255 ∷ 255 ∷ 255 ∷ 255 ∷ 255 ∷ 255
    ∷ 255 ∷ 255 ∷ 255 ∷ 255 ∷ 255 ∷ 255 ∷ 255 ∷ 255 ∷ 255 ∷ 255 ∷ 255 ∷ 255 ∷ 255 ∷ 255 ∷ 255 ∷ 255 ∷ 255 ∷ 255 ∷ 255
    ∷ 255 ∷ 255 ∷ 255 ∷ 255 ∷ 255 ∷ 255 ∷ 255 ∷ 255 ∷ 255 ∷ 255 ∷ 0 ∷ 1 ∷ 2 ∷ 3 ∷ 4 ∷ 5 ∷ 6 ∷ 7 ∷ 8 ∷ 9 ∷ 255 ∷ 255
    ∷ 255 ∷ 255 ∷ 255 ∷ 255 ∷ 255 ∷ 10 ∷ 11 ∷ 12 ∷ 13 ∷ 14 ∷ 15 ∷ 255 ∷ 255 ∷ 255 ∷ 255 ∷ 255 ∷ 255 ∷ 255 ∷ 255 ∷ 255
    ∷ 255 ∷ 255 ∷ 255 ∷ 255 ∷ 255 ∷ 255 ∷ 255 ∷ 255 ∷ 255 ∷ 255 ∷ 255 ∷ 255 ∷ 255 ∷ 255 ∷ 255 ∷ 255 ∷ 255 ∷ 10 ∷ 11 ∷ 12
    ∷ 13 ∷ 14 ∷ 15 ∷ 255 ∷ 255 ∷ 255 ∷ 255 ∷ 255 ∷ 255 ∷ 255 ∷ 255 ∷ 255 ∷ 255 ∷ 255 ∷ 255 ∷ 255 ∷ 255 ∷ 255 ∷ 255 ∷ 255
    ∷ 255 ∷ 255 ∷ 255 ∷ 255 ∷ 255 ∷ 255 ∷ 255 ∷ 255 ∷ 255 ∷ 255 ∷ 255 ∷ 255 ∷ 255 ∷ 255 ∷ 255 ∷ 255 ∷ 255 ∷ 255 ∷ 255
    ∷ 255 ∷ 255 ∷ 255 ∷ 255 ∷ 255 ∷ 255 ∷ 255 ∷ 255 ∷ 255 ∷ 255 ∷ 255 ∷ 255 ∷ 255 ∷ 255 ∷ 255 ∷ 255 ∷ 255 ∷ 255 ∷ 255
    ∷ 255 ∷ 255 ∷ 255 ∷ 255 ∷ 255 ∷ 255 ∷ 255 ∷ 255 ∷ 255 ∷ 255 ∷ 255 ∷ 255 ∷ 255 ∷ 255 ∷ 255 ∷ 255 ∷ 255 ∷ 255 ∷ 255
    ∷ 255 ∷ 255 ∷ 255 ∷ 255 ∷ 255 ∷ 255 ∷ 255 ∷ 255 ∷ 255 ∷ 255 ∷ 255 ∷ 255 ∷ 255 ∷ 255 ∷ 255 ∷ 255 ∷ 255 ∷ 255 ∷ 255
    ∷ 255 ∷ 255 ∷ 255 ∷ 255 ∷ 255 ∷ 255 ∷ 255 ∷ 255 ∷ 255 ∷ 255 ∷ 255 ∷ 255 ∷ 255 ∷ 255 ∷ 255 ∷ 255 ∷ 255 ∷ 255 ∷ 255
    ∷ 255 ∷ 255 ∷ 255 ∷ 255 ∷ 255 ∷ 255 ∷ 255 ∷ 255 ∷ 255 ∷ 255 ∷ 255 ∷ 255 ∷ 255 ∷ 255 ∷ 255 ∷ 255 ∷ 255 ∷ 255 ∷ 255
    ∷ 255 ∷ 255 ∷ 255 ∷ 255 ∷ 255 ∷ 255 ∷ 255 ∷ 255 ∷ 255 ∷ 255 ∷ 255 ∷ 255 ∷ 255 ∷ 255 ∷ 255 ∷ 255 ∷ 255 ∷ 255 ∷ 255
    ∷ 255 ∷ 255 ∷ 255 ∷ []

table_agrees : agrees 0 table ≡ true
unfolding agrees digit_of
table_agrees = refl

pub is_digit : (byte : ℕ) → byte < 256 → get_or table byte 0 < 16 → Some (get_or table byte 0) ≡ digit_of byte
is_digit byte low digit =
    small (get_or table byte 0) (digit_of byte) (says_at table 0 byte byte table_agrees low (omega arith)) digit

pub is_no_digit : (byte : ℕ) → byte < 256 → 16 ≤ get_or table byte 0 → None ≡ digit_of byte
is_no_digit byte low other =
    large (get_or table byte 0) (digit_of byte) (says_at table 0 byte byte table_agrees low (omega arith)) other
