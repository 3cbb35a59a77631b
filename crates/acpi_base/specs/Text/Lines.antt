-- What the parser of lines keeps and returns, in terms of image text.
use Rattle.std.specs.Prelude.{◌≡◌, ◌⊎◌, ℕ, List, length, Bool, true, false, Result, Ok, Err}
use Rattle.acpi_base.specs.Memory.{Memory}
use Rattle.acpi_base.specs.Text.ImageText.{Line, Blank, Address, Data, Bad, Reading}
use Rattle.acpi_base.specs.Text.TextReading.{is_of_text}
use Rattle.acpi_base.specs.declared.text.TextFault.{TextFault}
use Rattle.acpi_base.specs.declared.text.TextFault.TheVariants as text
use Rattle.acpi_base.specs.declared.text.image_text.line.Form.{Form}
use Rattle.acpi_base.specs.declared.text.image_text.line.Form.TheVariants as form
use Rattle.acpi_base.specs.declared.text.image_text.line_parser.LineParser.{LineParser}

-- what a line says; the code keeps a data line's bytes separately from the form
abbrev pub line_with : Form → List ℕ → Line
line_with form.Blank bytes = Blank
line_with (form.Address address) bytes = Address address
line_with form.Data bytes = Data bytes
line_with form.Bad bytes = Bad

-- a data line with these bytes, or a bad one
abbrev pub data_line : Bool → List ℕ → Line
data_line true bytes = Data bytes
data_line false bytes = Bad

-- it is a line of data with so many bytes
abbrev pub IsData : Line → ℕ → Type 0
IsData said count = (bytes : List ℕ) × (said ≡ Data bytes) × (length bytes ≡ count)

-- the state of the parser between two lines, if its data is this memory
abbrev pub reading_with : LineParser → Memory → Reading
reading_with p m = record { lines = p.lines; through = p.through; next = p.next; image = m }

-- the state of a reading that stops at the first repeated address, by the result of adding the data so far
abbrev pub judged_by : LineParser → Result Memory ℕ → Result Reading TextFault
judged_by p (Ok m) = Ok (reading_with p m)
judged_by p (Err address) = Err (text.Twice address)

abbrev pub judged : LineParser → Result Reading TextFault
judged p = judged_by p p.image

-- the fault of a text in which this one was found: a repeated address before it takes precedence
abbrev pub told : Result Memory ℕ → TextFault → TextFault
told (Ok m) fault = fault
told (Err address) fault = text.Twice address

-- the definition gives this fault of the text, unless memory ran out
abbrev pub Refuses : {A : Type 0} → Result A TextFault → TextFault → Type 0
Refuses read fault = (fault ≡ text.Memory) ⊎ ((read ≡ Err fault) × (is_of_text fault ≡ true))
