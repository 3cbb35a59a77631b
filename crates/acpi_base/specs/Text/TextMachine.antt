-- Reading a text byte by byte: the state of a reader of text in pieces. `acpi_base::laws::machine_reads_lines` says that it
-- agrees with reading by lines.
use Rattle.std.specs.Prelude.{◌≡◌, ℕ, ◌+◌, List, [], ◌∷◌, ◌++◌, length, Result, Ok, Err, ◌==◌, if◌then◌else◌}
use Rattle.acpi_base.specs.Text.ImageText.{Reading, start, read_line, is_too_long}
use Rattle.acpi_base.specs.Memory.{Memory}
use Rattle.acpi_base.specs.declared.text.TextFault.{TextFault}
use Rattle.acpi_base.specs.declared.text.TextFault.TheVariants as text

-- the state of a reader: within a line, of which these bytes have come, or stopped
pub data ReaderState : Type 0 where
  Going : Reading → List ℕ → ReaderState
  Stopped : TextFault → ReaderState

-- before the first byte
abbrev pub initial_state : ReaderState
initial_state = Going start []

-- a line has ended
abbrev pub state_after_line : Result Reading TextFault → ReaderState
state_after_line (Ok r) = Going r []
state_after_line (Err fault) = Stopped fault

-- a byte of the text comes
abbrev pub step : ReaderState → ℕ → ReaderState
step (Going r line) b =
    if b == 10
    then state_after_line (read_line r line 1)
    else (if is_too_long (length line + 1) (r.through + (length line + 1)) then Stopped text.TooLong else Going r (line ++ b ∷ []))
step (Stopped fault) b = Stopped fault

-- these bytes come, one after the other
unfoldable pub run : ReaderState → List ℕ → ReaderState
run state [] = state
run state (b ∷ rest) = run (step state b) rest

-- the text ends
abbrev pub text_result : ReaderState → Result Reading TextFault
text_result (Going r line) = read_line r line 0
text_result (Stopped fault) = Err fault

-- the result of reading a prefix of a text
abbrev pub prefix_result : ReaderState → Result Reading TextFault
prefix_result (Going r line) = Ok r
prefix_result (Stopped fault) = Err fault

-- there is no fault in what has come
abbrev pub IsGoing : ReaderState → Type 0
IsGoing (Going r line) = Unit {0}
IsGoing (Stopped fault) = ⊥

-- the text read so far has no fault at its end, and its data is this image
abbrev pub EndsAs : ReaderState → Memory → Type 0
EndsAs s m = (r : Reading) × (text_result s ≡ Ok r) × (r.image ≡ m)
