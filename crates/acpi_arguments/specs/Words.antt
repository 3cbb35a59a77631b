-- Numbers among the arguments of the command line, the inputs of I/O APICs, and faults.
use Rattle.std.specs.Prelude.{ℕ, ◌==◌, ◌^◌, Bool, ◌&&◌, List, [], ◌∷◌, Option, Some, None, if◌then◌else◌}
use Rattle.std.specs.Prelude.{codes, drop, find as find_first, length, nat_eq, nat_le, nat_lt, option_and_then, option_map}
use Rattle.std.specs.List.{after_first, before_first, list_all, starts_with}
use Rattle.std.specs.Char.{is_digit}
use Rattle.std.specs.Str.{bytes_eq}
use Rattle.std.specs.Str.Parse.{digits_value}
use Rattle.acpi_base.specs.Codes.{all_codes, code_name}
use Rattle.acpi_base.specs.Text.ImageText.{hex_number}
use Rattle.acpi_base.specs.Text.WitnessText.{witness_line}
use Rattle.acpi_base.specs.declared.code.Code.{Code}
use Rattle.acpi_base.specs.declared.witness.Witness.{Witness}
use Rattle.acpi_arguments.specs.declared.policy_words.Inputs.{Inputs}

-- ---- numbers

-- from 1 to `most` digits in this base, of either case, and nothing else
abbrev pub is_numeral : ℕ → ℕ → List ℕ → Bool
is_numeral base most text =
    nat_lt 0 (length text) && (nat_le (length text) most && list_all (λ c. is_digit c base) text)

-- the number that so many digits spell
abbrev pub number_word : ℕ → ℕ → List ℕ → Option ℕ
number_word base most text =
    if is_numeral base most text then Some (digits_value base text) else None

abbrev pub without_0x : List ℕ → List ℕ
without_0x text = if starts_with nat_eq text (codes "0x") then drop 2 text else text

-- 1 to `most` hex digits, with or without `0x` before them
abbrev pub hex_word : ℕ → List ℕ → Option ℕ
hex_word most text = number_word 16 most (without_0x text)

-- 1 to `most` decimal digits
abbrev pub decimal_word : ℕ → List ℕ → Option ℕ
decimal_word = number_word 10

-- ---- inputs of I/O APICs

-- the number of inputs of an I/O APIC: 1 to 256, in 1 to 3 decimal digits
abbrev pub count_word : List ℕ → Option ℕ
count_word text =
    option_and_then (λ n. if nat_le 1 n && nat_le n 256 then Some n else None) (decimal_word 3 text)

abbrev pub is_equals_sign : ℕ → Bool
is_equals_sign byte = byte == 61

-- `ADDRESS=COUNT`: 1 to 8 hex digits, with or without `0x` before them, and a count. Without a `=` there is no count.
abbrev pub inputs_word : List ℕ → Option Inputs
inputs_word text =
    option_and_then
    (λ address. option_map (λ count. record { address = address; count = count }) (count_word (after_first is_equals_sign text)))
    (hex_word 8 (before_first is_equals_sign text))

-- what each of the texts says, if all of them say something
abbrev pub all_read : {T : Type 0} → (List ℕ → Option T) → List (List ℕ) → Option (List T)
all_read read [] = Some []
all_read read (text ∷ texts) =
    option_and_then (λ first. option_map (λ rest. first ∷ rest) (all_read read texts)) (read text)

-- what each of the arguments says, if all of them are `ADDRESS=COUNT`
abbrev pub all_inputs : List (List ℕ) → Option (List Inputs)
all_inputs = all_read inputs_word

-- ---- faults

-- the code with this name
unfoldable pub code_by_name : List ℕ → Option Code
code_by_name name = find_first (λ c. bytes_eq (code_name c) name) all_codes

-- what comes before the first space, and what comes after it
abbrev pub is_space : ℕ → Bool
is_space byte = byte == 32

abbrev pub word_of : List ℕ → List ℕ
word_of = before_first is_space

abbrev pub behind_word : List ℕ → List ℕ
behind_word = after_first is_space

-- the number with these hex digits after its `0x`
abbrev pub number_behind_0x : List ℕ → ℕ
number_behind_0x word = hex_number 0 (drop 2 word)

-- The fault that a text names whose second word is a fault's name, as in `10 Overlap 0x90 0xb8 0x100000000`: its
-- numbers are read in hex, without the first two characters of each, from the third word, the fourth, and everything
-- after that one. The rest of the text is ignored.
unfoldable pub named_fault : List ℕ → Option Witness
named_fault text =
    option_map
    (λ c. record {
      code = c;
      at = number_behind_0x (word_of (behind_word (behind_word text)));
      other = number_behind_0x (word_of (behind_word (behind_word (behind_word text))));
      point = number_behind_0x (behind_word (behind_word (behind_word (behind_word text))));
    })
    (code_by_name (word_of (behind_word text)))

-- its three numbers fit 64 bits
abbrev pub numbers_fit : Witness → Bool
numbers_fit w = nat_lt w.at (2 ^ 64) && (nat_lt w.other (2 ^ 64) && nat_lt w.point (2 ^ 64))

-- the fault with exactly this text
unfoldable pub written_fault : List ℕ → Option Witness
written_fault text =
    option_and_then
    (λ w. if bytes_eq (witness_line w) text && numbers_fit w then Some w else None)
    (named_fault text)
