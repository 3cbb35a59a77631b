-- The state of a reader of a text as numbers and lists, which the model of such a reader is stored as.
use Rattle.std.specs.Prelude.{◌≡◌, ◌⊎◌, ◌==◌, ℕ, List, Option, if◌then◌else◌, refl}
use mathlib.Core.Logic.{inl, inr}
use Rattle.std.specs.Coded.{Coded, code_by, coded×, coded⊎, coded_list, coded_option, coded_ℕ}
use Rattle.std.specs.FinMap.{code}
use Rattle.acpi_base.specs.declared.text.TextFault.{TextFault}
use Rattle.acpi_base.specs.declared.text.TextFault.TheVariants.{BadLine, NoAddress, Twice, PastEnd, TooLong, Read, Memory}
use Rattle.acpi_base.specs.Text.ImageText.{Reading}
use Rattle.acpi_base.specs.Memory as memory
use Rattle.acpi_base.specs.Text.TextMachine.{ReaderState, Going, Stopped}

-- a fault as its number and what it names
abbrev pub fault_numbers : TextFault → ℕ × ℕ
fault_numbers (BadLine line) = (1, line)
fault_numbers (NoAddress line) = (2, line)
fault_numbers (Twice address) = (3, address)
fault_numbers (PastEnd line) = (4, line)
fault_numbers TooLong = (5, 0)
fault_numbers Read = (6, 0)
fault_numbers Memory = (7, 0)

abbrev pub fault_of : ℕ × ℕ → TextFault
fault_of p =
    if p.0 == 1 then BadLine p.1
    else (if p.0 == 2 then NoAddress p.1
    else (if p.0 == 3 then Twice p.1
    else (if p.0 == 4 then PastEnd p.1
    else (if p.0 == 5 then TooLong
    else (if p.0 == 6 then Read
    else Memory)))))

abbrev pub fault_back : (fault : TextFault) → fault_of (fault_numbers fault) ≡ fault
fault_back (BadLine line) = refl
fault_back (NoAddress line) = refl
fault_back (Twice address) = refl
fault_back (PastEnd line) = refl
fault_back TooLong = refl
fault_back Read = refl
fault_back Memory = refl

abbrev pub fault_code : Coded TextFault
fault_code = code_by (ℕ × ℕ) (coded× coded_ℕ coded_ℕ) fault_numbers fault_of fault_back

abbrev pub reading_code : Coded Reading
reading_code =
    code_by (ℕ × (ℕ × (Option ℕ × memory.Memory))) (coded× coded_ℕ (coded× coded_ℕ (coded× (coded_option coded_ℕ) (code coded_ℕ coded_ℕ))))
    (λ r. (r.lines, (r.through, (r.next, r.image))))
    (λ p. record { lines = p.0; through = p.1.0; next = p.1.1.0; image = p.1.1.1 })
    (λ _. refl)

abbrev pub state_parts : ReaderState → (Reading × List ℕ) ⊎ TextFault
state_parts (Going r line) = inl (r, line)
state_parts (Stopped fault) = inr fault

abbrev pub state_of_parts : (Reading × List ℕ) ⊎ TextFault → ReaderState
state_of_parts (inl p) = Going p.0 p.1
state_of_parts (inr fault) = Stopped fault

abbrev pub state_back : (s : ReaderState) → state_of_parts (state_parts s) ≡ s
state_back (Going r line) = refl
state_back (Stopped fault) = refl

abbrev pub state_code : Coded ReaderState
state_code = code_by ((Reading × List ℕ) ⊎ TextFault) (coded⊎ (coded× reading_code (coded_list coded_ℕ)) fault_code) state_parts state_of_parts state_back
