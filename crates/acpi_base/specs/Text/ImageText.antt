-- Image text: lines of hex digits that say which bytes are at which addresses. The text's bytes are ASCII.
use Rattle.std.specs.Prelude.{◌≡◌, ℕ, ◌+◌, ◌-◌, ◌*◌, List, [], ◌∷◌, ◌++◌, length, take, drop, slice_index, Option, Some, None, Result, Ok, Err, Bool, nat_lt, nat_le, ◌==◌, ◌||◌, ◌&&◌, if◌then◌else◌, unwrap_or, take_while, is_some}
use Rattle.std.specs.List.{before_first, list_all}
use Rattle.std.specs.Option.{option_map_or}
use Rattle.std.specs.FinMap.{empty}
use Rattle.acpi_base.specs.Memory.{Memory, with_bytes}
use Rattle.acpi_base.specs.Image.Adding.{add_refusal}
use Rattle.acpi_base.specs.declared.image.ImageFault.{ImageFault}
use Rattle.acpi_base.specs.declared.image.ImageFault.TheVariants as add
use Rattle.acpi_base.specs.declared.text.TextFault.{TextFault}
use Rattle.acpi_base.specs.declared.text.TextFault.TheVariants as text

-- the next step, if this one succeeded
abbrev pub on_ok : {A B E : Type 0} → Result A E → (A → Result B E) → Result B E
on_ok (Ok x) f = f x
on_ok (Err e) f = Err e

-- at most so many bytes: a text, and a line with its CR but not its LF
abbrev pub max_text : ℕ
max_text = 67108864

abbrev pub max_line : ℕ
max_line = 65536

-- a blank or a tab
abbrev pub is_blank : ℕ → Bool
is_blank b = (b == 32) || (b == 9)

-- a hex digit's value, in either case
unfoldable pub digit_of : ℕ → Option ℕ
digit_of b =
    if nat_le 48 b && nat_le b 57 then Some (b - 48)
    else (if nat_le 65 b && nat_le b 70 then Some (b - 55)
    else (if nat_le 97 b && nat_le b 102 then Some (b - 87)
    else None))

abbrev pub is_hex_digit : ℕ → Bool
is_hex_digit b = is_some (digit_of b)

-- what a line says
pub data Line : Type 0 where
  Blank : Line
  Address : ℕ → Line
  Data : List ℕ → Line
  Bad : Line

-- the line without a CR at its end
abbrev pub without_cr : List ℕ → List ℕ
without_cr line = if slice_index line (length line - 1) == 13 then take (length line - 1) line else line

-- the line before the first `#`
abbrev pub without_comment : List ℕ → List ℕ
without_comment line = before_first (λ b. b == 35) line

-- the line from its first byte on that is not blank
unfoldable pub skip_blanks : List ℕ → List ℕ
skip_blanks [] = []
skip_blanks (b ∷ rest) = if is_blank b then skip_blanks rest else b ∷ rest

-- the number that hex digits spell, the highest first, after those that spelled `value`
unfoldable pub hex_number : ℕ → List ℕ → ℕ
hex_number value [] = value
hex_number value (b ∷ rest) = hex_number (16 * value + unwrap_or (digit_of b) 0) rest

-- 1 to 16 hex digits, and then nothing but blanks
unfoldable pub address_line_of : List ℕ → Line
address_line_of rest =
    let digits = take_while is_hex_digit rest in
    if nat_le 1 (length digits) && nat_le (length digits) 16 && list_all is_blank (drop (length digits) rest)
    then Address (hex_number 0 digits)
    else Bad

-- pairs of hex digits, with any blanks between pairs and after the last. `bytes` are those of the pairs so far, and `high`
-- is the first digit of an incomplete pair.
unfoldable pub data_from : List ℕ → Option ℕ → List ℕ → Line
data_from bytes None [] = Data bytes
data_from bytes (Some high) [] = Bad
data_from bytes None (b ∷ rest) =
    option_map_or (λ digit. data_from bytes (Some digit) rest) (digit_of b) (if is_blank b then data_from bytes None rest else Bad)
data_from bytes (Some high) (b ∷ rest) = option_map_or (λ low. data_from (bytes ++ (16 * high + low) ∷ []) None rest) (digit_of b) Bad

-- after leading blanks: nothing, `@` and directly an address, or data
unfoldable pub form_of : List ℕ → Line
form_of [] = Blank
form_of (b ∷ rest) = if b == 64 then address_line_of rest else data_from [] None (b ∷ rest)

-- what a line says, without its LF
unfoldable pub line_of : List ℕ → Line
line_of line = form_of (skip_blanks (without_comment (without_cr line)))

-- the state of reading between two lines: how many lines and bytes it has read, each with its LF, the
-- next address, and the image so far
pub record Reading : Type 0 where
  pub lines : ℕ
  pub through : ℕ
  pub next : Option ℕ
  pub image : Memory

abbrev pub start : Reading
start = record { lines = 0; through = 0; next = None; image = empty }

-- why bytes of line n cannot be added
abbrev pub data_fault : ℕ → ImageFault → TextFault
data_fault n add.PastEnd = text.PastEnd n
data_fault n (add.Twice address) = text.Twice address
data_fault n add.Memory = text.Memory

-- the bytes of line n are added at the next address
abbrev pub put_data : Reading → ℕ → List ℕ → Option ℕ → Result Reading TextFault
put_data r n bytes None = Err (text.NoAddress n)
put_data r n bytes (Some address) =
    option_map_or
    (λ fault. Err (data_fault n fault))
    (add_refusal r.image address bytes)
    (Ok (record r { next = Some (address + length bytes); image = with_bytes r.image address bytes }))

-- line n is read as what it says
abbrev pub take_line : Reading → ℕ → Line → Result Reading TextFault
take_line r n Blank = Ok r
take_line r n (Address address) = Ok (record r { next = Some address })
take_line r n (Data bytes) = put_data r n bytes r.next
take_line r n Bad = Err (text.BadLine n)

-- whether a line of so many bytes so far is too long, or makes the text too long; `through` is the text's bytes up to the
-- line's end
abbrev pub is_too_long : ℕ → ℕ → Bool
is_too_long line_bytes through = nat_lt max_line line_bytes || nat_lt max_text through

-- the next line is read: first its length, and then what it says. `ending` is 1 if an LF ends it, and 0 if the text does.
unfoldable pub read_line : Reading → List ℕ → ℕ → Result Reading TextFault
read_line r line ending =
    let through = r.through + length line + ending in
    if is_too_long (length line) through
    then Err text.TooLong
    else take_line (record r { lines = r.lines + 1; through = through }) (r.lines + 1) (line_of line)

-- the lines that an LF ends are read in turn, up to the first fault
unfoldable pub read_lines : Reading → List (List ℕ) → Result Reading TextFault
read_lines r [] = Ok r
read_lines r (line ∷ rest) = on_ok (read_line r line 1) (λ s. read_lines s rest)

-- the lines of the text that an LF ends, where `line` is a prefix of the first
unfoldable pub ended_lines_from : List ℕ → List ℕ → List (List ℕ)
ended_lines_from line [] = []
ended_lines_from line (b ∷ rest) = if b == 10 then line ∷ ended_lines_from [] rest else ended_lines_from (line ++ b ∷ []) rest

-- what comes after the last LF, if `line` comes before the text
unfoldable pub last_line_from : List ℕ → List ℕ → List ℕ
last_line_from line [] = line
last_line_from line (b ∷ rest) = if b == 10 then last_line_from [] rest else last_line_from (line ++ b ∷ []) rest

abbrev pub ended_lines : List ℕ → List (List ℕ)
ended_lines bytes = ended_lines_from [] bytes

abbrev pub last_line : List ℕ → List ℕ
last_line bytes = last_line_from [] bytes

-- a complete text is read: its ended lines, and then what comes after the last LF as a line
abbrev pub read_text : List ℕ → Result Reading TextFault
read_text bytes = on_ok (read_lines start (ended_lines bytes)) (λ r. read_line r (last_line bytes) 0)

-- a prefix of a text is read: of a line that has not ended only the length is judged
abbrev pub read_prefix : List ℕ → Result Reading TextFault
read_prefix bytes =
    on_ok
    (read_lines start (ended_lines bytes))
    (λ r. if is_too_long (length (last_line bytes)) (r.through + length (last_line bytes)) then Err text.TooLong else Ok r)

-- the text has no fault, and its data is this image
abbrev pub IsText : List ℕ → Memory → Type 0
IsText bytes m = (r : Reading) × (read_text bytes ≡ Ok r) × (r.image ≡ m)

-- the text's first line with a fault has this one
abbrev pub IsRefused : List ℕ → TextFault → Type 0
IsRefused bytes fault = read_text bytes ≡ Err fault

-- a prefix of a text has a line with a fault, whatever comes after it, and the first has this one
abbrev pub IsRefusedPrefix : List ℕ → TextFault → Type 0
IsRefusedPrefix bytes fault = read_prefix bytes ≡ Err fault
