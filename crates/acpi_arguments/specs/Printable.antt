-- The arguments as error messages print them.
use Rattle.std.specs.Prelude.{ℕ, ◌/◌, ◌%◌, ◌<◌, ◌≤◌, ◌≡◌, Bool, true, not, ◌||◌, nat_lt, List, [], ◌∷◌, ◌++◌, if◌then◌else◌, length, get_or, String}
use Rattle.std.specs.Char.{digit_char, encode_utf8, is_control}
use Rattle.std.specs.Int.{is_in_range}
use Rattle.std.specs.List.{list_all, list_any}
use Rattle.std.specs.Str.{chars}
use Rattle.std.specs.Global.{Global}
use Rattle.std.specs.String.{string_bytes}

-- characters that are not seen, or that change what is seen of others: format characters (Unicode's category Cf), the
-- separators of lines and paragraphs (Zl, Zp), and those that are ignored by default, as variation selectors
abbrev pub hidden_ranges : List (ℕ × ℕ)
hidden_ranges =
    (0xad, 0xad) ∷ (0x34f, 0x34f) ∷ (0x600, 0x605) ∷ (0x61c, 0x61c) ∷ (0x6dd, 0x6dd) ∷ (0x70f, 0x70f) ∷
    (0x890, 0x891) ∷ (0x8e2, 0x8e2) ∷ (0x115f, 0x1160) ∷ (0x17b4, 0x17b5) ∷ (0x180b, 0x180f) ∷ (0x200b, 0x200f) ∷
    (0x2028, 0x202e) ∷ (0x2060, 0x206f) ∷ (0x3164, 0x3164) ∷ (0xfe00, 0xfe0f) ∷ (0xfeff, 0xfeff) ∷ (0xffa0, 0xffa0) ∷
    (0xfff0, 0xfffb) ∷ (0x110bd, 0x110bd) ∷ (0x110cd, 0x110cd) ∷ (0x13430, 0x1343f) ∷ (0x1bca0, 0x1bca3) ∷
    (0x1d173, 0x1d17a) ∷ (0xe0000, 0xe0fff) ∷ []

-- a character is in a range of codes
abbrev pub is_within : ℕ → ℕ × ℕ → Bool
is_within c range = is_in_range range.0 range.1 c

-- such a character, or a control character: below 0x20, or from 0x7f to 0x9f
unfoldable pub is_hidden : ℕ → Bool
is_hidden c = list_any (is_within c) hidden_ranges || is_control c

-- no character of a UTF-8 text is hidden
abbrev pub is_printable : List ℕ → Bool
is_printable text = list_all (λ c. not (is_hidden c)) (chars text)

-- a byte in two hex digits
abbrev pub hex_byte : ℕ → List ℕ
hex_byte b = digit_char (b / 16) ∷ digit_char (b % 16) ∷ []

-- a character as its number: `\x1b`, `\u202e` or `\U000e0001`
abbrev pub escape : ℕ → List ℕ
escape c = if nat_lt c 0x100 then 92 ∷ 120 ∷ hex_byte c
    else if nat_lt c 0x1_0000 then 92 ∷ 117 ∷ hex_byte (c / 0x100 % 0x100) ++ hex_byte (c % 0x100)
    else 92 ∷ 85 ∷ 48 ∷ 48 ∷ hex_byte (c / 0x1_0000) ++ hex_byte (c / 0x100 % 0x100) ++ hex_byte (c % 0x100)

-- a character in UTF-8, or its number if it is hidden
abbrev pub visible : ℕ → List ℕ
visible c = if is_hidden c then escape c else encode_utf8 c

-- what an error message prints of an argument: no hidden character, and at most 803 bytes, since 200 bytes may become
-- four times as many, and three dots follow; a short argument without hidden characters is printed unchanged
pub record IsPrinted (argument text : List ℕ) : Type 0 where
  pub printable : is_printable text ≡ true
  pub short : length text ≤ 803
  pub same : is_printable argument ≡ true → length argument ≤ 200 → text ≡ argument

-- what error messages print of some arguments, in their order
pub record ArePrinted (arguments printed : List (String Global)) : Type 0 where
  pub count : length printed ≡ length arguments
  pub each : (i : ℕ) (d : String Global) → i < length arguments
      → IsPrinted (string_bytes (get_or arguments i d)) (string_bytes (get_or printed i d))
