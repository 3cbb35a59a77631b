-- The laws of image text.
use Rattle.std.specs.Prelude.{◌≡◌, ◌↔◌, ◌⊎◌, ℕ, List, ◌++◌, true}
use Rattle.acpi_base.specs.Text.ImageText.{read_text, read_prefix, IsText, IsRefused, IsRefusedPrefix}
use Rattle.acpi_base.specs.Memory.{Memory}
use Rattle.acpi_base.specs.Text.TextMeaning.{text_lines, AreLines, IsGoodText}
use Rattle.acpi_base.specs.Text.TextReading.{is_of_text}
use Rattle.acpi_base.specs.Text.TextMachine.{ReaderState, Stopped, initial_state, run, text_result, prefix_result}
use Rattle.acpi_base.specs.declared.text.TextFault.{TextFault}

-- a complete text, byte by byte and by lines
abbrev pub RunReadsText : Type 0
RunReadsText = (bytes : List ℕ) → text_result (run initial_state bytes) ≡ read_text bytes

-- a prefix of a text, byte by byte and by lines
abbrev pub RunReadsPrefix : Type 0
RunReadsPrefix = (bytes : List ℕ) → prefix_result (run initial_state bytes) ≡ read_prefix bytes

-- the run stops where a prefix has a fault, and with that fault
abbrev pub RunStopsAtFaults : Type 0
RunStopsAtFaults = (bytes : List ℕ) (fault : TextFault) → (run initial_state bytes ≡ Stopped fault) ↔ IsRefusedPrefix bytes fault

-- how the bytes are cut into pieces does not matter
abbrev pub RunGoesOn : Type 0
RunGoesOn = (s : ReaderState) (xs ys : List ℕ) → run s (xs ++ ys) ≡ run (run s xs) ys

-- a fault in a prefix of a text is the complete text's, whatever comes after
abbrev pub PrefixDecides : Type 0
PrefixDecides = (bytes more : List ℕ) (fault : TextFault) → IsRefusedPrefix bytes fault → IsRefused (bytes ++ more) fault

-- what it means that a text has no fault and gives an image
abbrev pub TextMeans : Type 0
TextMeans = (bytes : List ℕ) (m : Memory) → IsText bytes m ↔ IsGoodText bytes m

-- a text is good, or is refused with a fault
abbrev pub TextOrFault : Type 0
TextOrFault = (bytes : List ℕ) → ((m : Memory) × IsGoodText bytes m) ⊎ ((fault : TextFault) × IsRefused bytes fault)

-- a good text is not refused
abbrev pub NeverBoth : Type 0
NeverBoth = (bytes : List ℕ) (m : Memory) (fault : TextFault) → IsGoodText bytes m → ¬ IsRefused bytes fault

-- what a text is refused with is a fault of the text: neither a failed read nor out of memory
abbrev pub RefusalsAreOwn : Type 0
RefusalsAreOwn = (bytes : List ℕ) (fault : TextFault) → IsRefused bytes fault → is_of_text fault ≡ true

-- a good text has one image
abbrev pub OneImage : Type 0
OneImage = (bytes : List ℕ) (m n : Memory) → IsGoodText bytes m → IsGoodText bytes n → m ≡ n

-- a text is refused with at most one fault
abbrev pub OneTextFault : Type 0
OneTextFault = (bytes : List ℕ) (one other : TextFault) → IsRefused bytes one → IsRefused bytes other → one ≡ other

-- which lists are the lines of a text
abbrev pub LinesMean : Type 0
LinesMean = (bytes : List ℕ) (lines : List (List ℕ)) → (text_lines bytes ≡ lines) ↔ AreLines bytes lines
