-- What `read_image` returns, in terms of image text.
use Rattle.std.specs.Prelude.{◌≡◌, ◌⊎◌, ℕ, List, Option, Bool, true, false, Ok}
use Rattle.std.specs.Io.KnownBytes.{IsAtEnd}
use Rattle.acpi_base.specs.Text.ImageText.{Reading, read_prefix, IsRefused, IsRefusedPrefix}
use Rattle.acpi_base.specs.Tally.{CountsFailure}
use Rattle.acpi_base.specs.declared.text.TextFault.{TextFault}
use Rattle.acpi_base.specs.declared.text.TextFault.TheVariants as text

-- neither the complete lines nor the lengths so far have a fault
abbrev pub IsFaultlessPrefix : List ℕ → Type 0
IsFaultlessPrefix bytes = (r : Reading) × (read_prefix bytes ≡ Ok r)

-- The text is refused with this fault; `left` is what the reader has left. A fault of the text is in what was read, whatever
-- comes after it, or in the complete text. A failed read is reported if there was no fault before. Out of memory says nothing
-- about the text.
abbrev pub IsRefusal : List ℕ → Option (List ℕ) → TextFault → Type 0
IsRefusal bytes left text.Read = IsFaultlessPrefix bytes
IsRefusal bytes left text.Memory = Unit {0}
IsRefusal bytes left fault = IsRefusedPrefix bytes fault ⊎ (IsAtEnd left × IsRefused bytes fault)

-- The reader's count of failures, before and after: with `Read` a failure is counted, and with any other fault none. But an
-- address that comes twice may be followed by a failed read, which is counted too.
abbrev pub CountsRead : ℕ → ℕ → TextFault → Type 0
CountsRead old new text.Read = CountsFailure old new
CountsRead old new (text.Twice address) = (new ≡ old) ⊎ CountsFailure old new
CountsRead old new fault = new ≡ old

-- whether the fault is one of a text, and not of its reader or of memory
abbrev pub is_of_text : TextFault → Bool
is_of_text text.Read = false
is_of_text text.Memory = false
is_of_text fault = true
