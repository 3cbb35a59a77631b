-- What a reader of a text in pieces keeps, as a state of the text machine.
use Rattle.std.specs.Prelude.{◌≡◌, ◌+◌, ◌≤◌, ℕ, List, length, Option, Some, None, Result, Ok, Err, false}
use Rattle.std.specs.Io.KnownBytes.{Consumes}
use Rattle.acpi_base.specs.declared.text.image_text.line_buffer.LineBuffer.{LineBuffer}
use Rattle.acpi_base.specs.declared.text.TextFault.{TextFault}
use Rattle.acpi_base.specs.Text.ImageText.{Reading, is_too_long}
use Rattle.acpi_base.specs.Text.Lines.{judged}
use Rattle.acpi_base.specs.Text.TextMachine.{ReaderState, Going, IsGoing, Stopped, initial_state, run}

-- the state within a line, by the state of reading between two lines
abbrev pub state_with : Result Reading TextFault → List ℕ → ReaderState
state_with (Ok r) line = Going r line
state_with (Err fault) line = Stopped fault

-- the state of a reader that has met no fault, unless an address has come twice
abbrev pub buffer_state : LineBuffer → ReaderState
buffer_state f = state_with (judged f.parser) f.line.items

-- how many bytes have come
abbrev pub byte_count : LineBuffer → ℕ
byte_count f = f.parser.through + length f.line.items

-- no fault so far, except perhaps a repeated address: neither the incomplete line nor the text is too long
pub record IsLineBuffer (f : LineBuffer) : Type 0 where
  pub lines : f.parser.lines ≤ f.parser.through
  pub short : is_too_long (length f.line.items) (byte_count f) ≡ false

-- the state of a reader; once stopped, it stays so
abbrev pub reader_state : Option TextFault → LineBuffer → ReaderState
reader_state None f = buffer_state f
reader_state (Some fault) f = Stopped fault

-- until then no address has come twice
abbrev pub IsReader : Option TextFault → LineBuffer → Type 0
IsReader None f = IsLineBuffer f × IsGoing (buffer_state f)
IsReader (Some fault) f = Unit {0}

-- The reader has read a text of so many bytes, and this is the machine's state after it.
pub record HasRead (before left : Option (List ℕ)) (state : ReaderState) (count : ℕ) : Type 0 where
  pub text : List ℕ
  pub consumed : Consumes before left text
  pub long : length text ≡ count
  pub stands : run initial_state text ≡ state
